-- With room for all calls that can be open at once a run is not full, and how much room there is makes no difference.
-- A callable calls lower ones only, so of those below n at most n calls are open; each takes at most 16 slots.
use mathlib.Core.Path.{◌≡◌}
use mathlib.Core.Option.{Option, none, some}
use Prim.Native.Nat.{ℕ, zero, suc, ◌+◌, ◌*◌, ◌≤◌}
use native.Mathlib.Omega.{arith}
use mathlib.Core.List.{List}
use lib.Dec.{eqb}
use lib.ListN.{length}
use borrow.Author.Tests.{le-leb}
use Rattle.rules.specs.Syntax.{Ty, Callable, Program}
use Rattle.rules.specs.Form.{scope_of}
use Rattle.rules.specs.Lists.{Entry, Cell, slots_of}
use Rattle.rules.specs.Running.{State, Ending, Seen, Out, full, left, leave, fresh, run_body, run_number, calls_below, finish, run_program}
use Rattle.rules.specs.Answers.{Bench, judged, accepted, working_slots}
use Rattle.rules.proofs.Predicates.{look-all, IfSome, if_none, if_some}
use Rattle.rules.proofs.Limits.{slots_of_call, most_slots, CallableLimited, Limited, store-limited}
use Rattle.rules.proofs.Accepted.{judged-ok}
use Rattle.rules.proofs.Alike.{Alike, both_done, both_stuck, RunAlike, alike_same, alike-not-full, next-alike, nowhere-alike, branch-alike, and-then-alike, stmt-alike, table-alike, parser-alike}

-- a body's end, and the whole run's
left-alike : (ns : List ℕ) (cells : List Cell) (seen : Seen) (e : Option Ending)
    → Alike (left ns cells seen e) (left ns cells seen e)
unfolding left
left-alike ns cells seen none = both_stuck
left-alike ns cells seen (some e) = both_done

leave-alike : (returns : Option Ty) {o p : Out State Ending} → Alike o p → Alike (leave returns o) (leave returns p)
unfolding leave
leave-alike returns both_done = left-alike _ _ _ _
leave-alike returns both_stuck = both_stuck

finish-alike : {o p : Out State Ending} → Alike o p → Alike (finish o) (finish p)
unfolding finish
finish-alike both_done = both_done
finish-alike both_stuck = both_stuck

-- the callables by their number, then the program
module _ (capacity another : ℕ) (P : Program) (limited : Limited P) where
  -- with so many slots in use there is room for the calls below n
  abbrev Room : ℕ → ℕ → ℕ → Type 0
  Room size n used = used + n * slots_of_call ≤ size

  abbrev CallsAlike : ℕ → Type 0
  CallsAlike n = (used other : ℕ) → Room capacity n used → Room another n other → (f : ℕ) (ns : List ℕ)
      → RunAlike (calls_below capacity P n used f ns) (calls_below another P n other f ns)

  body_alike : (n : ℕ) → CallsAlike n → (c : Callable) → CallableLimited c → (used other : ℕ)
      → Room capacity (suc n) used → Room another (suc n) other → (ns : List ℕ)
      → RunAlike (run_body capacity P n (calls_below capacity P n) c used ns)
      (run_body another P n (calls_below another P n) c other ns)
  unfolding run_body
  body_alike n lower c w used other h k ns =
      let own = length c.parameters + length c.locals in
      record {
        alike = λ cells.
            rw (le-leb (used + own) capacity (omega arith), le-leb (other + own) another (omega arith), run_body)
            (leave-alike c.returns ((stmt-alike (used + own) (other + own) _ _
            (lower (used + own) (other + own) (omega arith) (omega arith)) (scope_of P n c) _ _
            (λ t. nowhere-alike) c.body).alike (fresh c ns cells)));
      }

  number-alike : (n : ℕ) → CallsAlike n → {o : Option Callable} → IfSome CallableLimited o → (used other : ℕ)
      → Room capacity (suc n) used → Room another (suc n) other → (ns : List ℕ)
      → RunAlike (run_number capacity P n (calls_below capacity P n) o used ns)
      (run_number another P n (calls_below another P n) o other ns)
  unfolding run_number
  number-alike n lower if_none used other h k ns = nowhere-alike
  number-alike n lower (if_some {a = c} w) used other h k ns = body_alike n lower c w used other h k ns

  pub calls-alike : (n : ℕ) → CallsAlike n
  unfolding calls_below
  calls-alike zero used other h k f ns = nowhere-alike
  calls-alike (suc n) used other h k f ns = branch-alike (eqb f n)
      (number-alike n (calls-alike n) (look-all limited.slots n) used other h k ns)
      (calls-alike n used other (omega arith) (omega arith) f ns)

program-alike : (capacity another : ℕ) (P : Program) → Limited P → (entries : List Entry) (store : List Cell)
    (packet : List ℕ)
    → length (slots_of store) + length P.callables * slots_of_call ≤ capacity
    → length (slots_of store) + length P.callables * slots_of_call ≤ another
    → Alike (run_program capacity P entries store packet) (run_program another P entries store packet)
unfolding run_program
program-alike capacity another P limited entries store packet h k =
    let used = length (slots_of store) in
    let calls = calls-alike capacity another P limited (length P.callables) used used h k in
    finish-alike (next-alike ((parser-alike used used _ _ calls P P.states).alike _) λ ending. and-then-alike ending
    (stmt-alike used used _ _ calls _ _ _ (table-alike used used _ _ calls P entries) P.body))

-- a file that is accepted
accepted-alike : (capacity another : ℕ) → most_slots ≤ capacity → most_slots ≤ another → (bytes : List ℕ) (bench : Bench)
    → judged bytes ≡ accepted bench
    → Alike (run_program capacity bench.program bench.entries bench.store bench.packet)
    (run_program another bench.program bench.entries bench.store bench.packet)
accepted-alike capacity another h k bytes bench e =
    let known = judged-ok bytes bench e in
    let P = bench.program in
    let taken = length (slots_of bench.store) + length P.callables * slots_of_call in
    let store = store-limited P known.limited bench.store known.store-fits in
    let most : taken ≤ most_slots = omega (arith, store, known.limited.callables) in
    program-alike capacity another P known.limited bench.entries bench.store bench.packet (omega arith)
    (omega arith)

pub accepted-same : (capacity another : ℕ) → most_slots ≤ capacity → most_slots ≤ another → (bytes : List ℕ)
    (bench : Bench) → judged bytes ≡ accepted bench
    → run_program capacity bench.program bench.entries bench.store bench.packet
    ≡ run_program another bench.program bench.entries bench.store bench.packet
accepted-same capacity another h k bytes bench e = alike_same (accepted-alike capacity another h k bytes bench e)

pub accepted-not-full : (bytes : List ℕ) (bench : Bench) → judged bytes ≡ accepted bench
    → run_program working_slots bench.program bench.entries bench.store bench.packet ≡ full → ⊥
accepted-not-full bytes bench e =
    alike-not-full (accepted-alike working_slots working_slots (omega arith) (omega arith) bytes bench e)
