-- Soundness of the parser block: states that are well formed run, within the ceiling of the dearest path, and the apply
-- body behind them.
use mathlib.Core.Path.{◌≡◌, refl, ap}
use mathlib.Core.Bool.{Bool, true, false, false≢true}
use mathlib.Core.Option.{Option, some}
use Prim.Native.Nat.{ℕ, suc, ◌+◌, ◌-◌, ◌≤◌, ◌<◌, max}
use native.Mathlib.Omega.{arith}
use native.Mathlib.Nat.{add-zero, zero-add, add-suc, suc-add}
use mathlib.Core.List.{List, [], ◌∷◌, map}
use lib.Dec.{ltb, eqb}
use lib.ListN.{get_elem?, length}
use borrow.Author.Tests.{eqb-true, eqb-false, ltb-true, lt-leb}
use Rattle.rules.specs.Syntax.{Numeral, Pair, Transition, no_transition, accept, reject, lead_to, select, ParserState, Program}
use Rattle.rules.specs.Form.{only_if, in_state, Body, is_apply, is_state, apply_scope, state_scope, later_state, judge_later, judge_pairs, values_fit, judge_transition, judge_state, judge_states}
use Rattle.rules.specs.Ceiling.{no_table, ceiling_stmt, largest_of, ceiling_transition, ceiling_from, ceiling_parser}
use Rattle.rules.specs.Running.{State, Ending, rejected, done, M, pure, nowhere, short_packet, bytes_in, extract_into, and_then_run, Calls, selected, run_transition, run_state, run_from, run_parser}
use Rattle.rules.proofs.Predicates.{All, none_left, also, IfOk, is_ok, IfSome, if_none, if_some, ok-then, ok-map, ok-self, ok-found, from-ok, from_some, at_most, Runs, runs_then, runs-tick, runs-pure, runs-some, runs_map, runs-le, runs-holds}
use Rattle.rules.proofs.Fits.{StateFits, ok-bits}
use Rattle.rules.proofs.Sound.{EndOk, ok_onward, ok_value, ok_end, ok_return, ok_exit, ok_reject, end-weak, and-then-ok, CallsOk, AppliesOk, sound-expr, sound-stmt}
use Rattle.rules.proofs.Tables.{fine-ok, worked-ok}

-- what a state sees, the apply body sees
pub as-apply : (P : Program) (s : State) → StateFits (state_scope P) s → StateFits (apply_scope P) s
unfolding state_scope apply_scope
as-apply P s f = record { store-fits = f.store-fits; parameters-fit = f.parameters-fit; locals-fit = f.locals-fit }

pub as-state : (P : Program) (s : State) → StateFits (apply_scope P) s → StateFits (state_scope P) s
unfolding state_scope apply_scope
as-state P s f = record { store-fits = f.store-fits; parameters-fit = f.parameters-fit; locals-fit = f.locals-fit }

-- a packet that is too short for a header changes nothing
pub short-changes-nothing : (g : ℕ) (widths : List ℕ) (s : State) → length s.packet < bytes_in widths
    → extract_into g widths s ≡ done (rejected short_packet) s []
unfolding extract_into pure
short-changes-nothing g widths s h = rw (extract_into, lt-leb (bytes_in widths) (length s.packet) h) refl

-- behind the parser
pub parsed-then : {S : Type 0} {F : S → Type 0} {R : Ending → Type 0} {b : Body} {m : Bool} {c : ℕ} {rest : M S Ending}
    {e : Ending} → EndOk b m e → Runs ◌≤◌ F R c rest → Runs ◌≤◌ F (λ _. Unit {0}) c (and_then_run e rest)
unfolding and_then_run
parsed-then ok_onward h = runs_map h λ _ _. tt
parsed-then (ok_value v) h = runs-le (omega arith) (runs-pure at_most _ tt)
parsed-then (ok_end q) h = runs_map h λ _ _. tt
parsed-then (ok_return q) h = runs-le (omega arith) (runs-pure at_most _ tt)
parsed-then (ok_exit q) h = runs-le (omega arith) (runs-pure at_most _ tt)
parsed-then (ok_reject q) h = runs-le (omega arith) (runs-pure at_most _ tt)

module _ (P : Program) (used : ℕ) (calls : Calls) (callee : ℕ
    → ℕ) (calls-ok : CallsOk P (length P.callables) calls callee) where
  abbrev Parses : ℕ → M State Ending → Type 0
  Parses c m = Runs ◌≤◌ (StateFits (state_scope P)) (EndOk in_state false) c m

  rejects : (e : ℕ) → Parses 0 (pure (rejected e))
  unfolding is_state
  rejects e = runs-pure at_most _ (ok_reject refl)

  -- each state that number n may lead to runs
  abbrev LaterOk : ℕ → (ℕ → M State Ending) → (ℕ → ℕ) → Type 0
  LaterOk n later ceilings = (m : ℕ) → IfSome (λ _. Parses (ceilings m) (later m)) (later_state P n m)

  module _ (n : ℕ) (later : ℕ → M State Ending) (ceilings : ℕ → ℕ) (runs : LaterOk n later ceilings) where
    abbrev Leads : Numeral → Type 0
    Leads s = Parses (ceilings s.number) (later s.number)

    later-ok : (s : Numeral) → IfOk (λ _. Leads s) (judge_later P n s)
    unfolding judge_later
    later-ok s = ok-then (ok-found s.at (later_state P n s.number)) λ _ e. is_ok (from_some (rw e at (runs s.number)))

    pairs-ok : (ps : List Pair) → IfOk (λ _. All (λ p. Leads p.state) ps) (judge_pairs P n ps)
    unfolding judge_pairs
    pairs-ok [] = is_ok none_left
    pairs-ok (p ∷ ps) = ok-then (later-ok p.state) λ _ h. ok-map (pairs-ok ps) λ _ hs. also h hs

    selected-ok : (k : ℕ) {ps : List Pair} → All (λ p. Leads p.state) ps
        → Parses (largest_of ceilings (map (λ p. p.state) ps)) (selected later k ps)
    unfolding selected largest_of
    selected-ok k none_left = rejects 2
    selected-ok k (also {a = p} {xs = ps} h hs) = go (eqb k p.value.number) (selected-ok k hs)
      where
        go : (b : Bool) → Parses (largest_of ceilings (map (λ p. p.state) ps)) (selected later k ps)
            → Parses (max (ceilings p.state.number) (largest_of ceilings (map (λ p. p.state) ps)))
            (elim b [ true ↦ later p.state.number | false ↦ selected later k ps ])
        go true r = runs-le (omega arith) h
        go false r = runs-le (omega arith) r

    transition-ok : (t : Transition) → IfOk (λ _. Parses (ceiling_transition callee ceilings t)
        (run_transition P used calls later t)) (judge_transition P n t)
    unfolding judge_transition run_transition ceiling_transition state_scope
    transition-ok no_transition = is_ok (rejects 3)
    transition-ok accept = is_ok (runs-pure at_most _ ok_onward)
    transition-ok (reject e) = is_ok (rejects e)
    transition-ok (lead_to s) = later-ok s
    transition-ok (select at e ps) = ok-then (pairs-ok ps) λ _ hs.
        ok-then (sound-expr (state_scope P) used calls callee calls-ok e) λ t he. ok-then (ok-bits (suc at) t) λ w q.
        ok-map (fine-ok (values_fit w ps)) λ _ f. runs-le (omega arith) (runs_then at_most he λ v hv.
        runs_then at_most (runs-some at_most (worked-ok (rw q at hv))) λ k hk.
        runs-holds _ (rw hk f) (selected-ok k.number hs))

    no-apply : AppliesOk (state_scope P) (λ t. nowhere) no_table
    unfolding state_scope is_apply
    no-apply e t = absurd (false≢true e)

    state-ok : (s : ParserState) → IfOk (λ _. Parses (1 + (ceiling_stmt callee no_table s.body
        + ceiling_transition callee ceilings s.transition)) (run_state P used calls later s)) (judge_state P n s)
    unfolding judge_state run_state state_scope
    state-ok s = ok-then (sound-stmt (state_scope P) used calls callee calls-ok (λ t. nowhere) no_table no-apply
        s.body) λ _ h. ok-map (transition-ok s.transition) λ _ k.
        runs-tick at_most (runs_then at_most h λ e he. runs_map (and-then-ok he k) λ _. end-weak)

  -- the program's states from number n on
  abbrev Behind : ℕ → List ParserState → Type 0
  Behind n ss = (i : ℕ) → get_elem? P.states (n + i) ≡ get_elem? ss i

  -- each of them runs, with what it leads to
  abbrev RunsAt : ℕ → List ParserState → ℕ → Option ParserState → Type 0
  RunsAt n ss m o = IfSome (λ _. Parses (ceiling_from callee n ss m) (run_from P used calls n ss m)) o

  abbrev RunFrom : ℕ → List ParserState → Type 0
  RunFrom n ss = (m : ℕ) → n ≤ m → RunsAt n ss m (get_elem? P.states m)

  states-ok : (n : ℕ) (ss : List ParserState) → Behind n ss → IfOk (λ _. RunFrom n ss) (judge_states P n ss)
  unfolding judge_states ceiling_from run_from
  states-ok n [] b = is_ok λ m h. let same : n + (m - n) ≡ m = omega arith in rw (rw same at (b (m - n))) if_none
  states-ok n (s ∷ ss) b = ok-then (ok-self (judge_state P n s)) λ _ j.
      ok-map (states-ok (suc n) ss (λ i. rw (suc-add n i, ← add-suc n i) (b (suc i)))) λ _ rest m h.
      go m h rest (eqb m n) refl (from-ok (rw j at (state-ok n
      (run_from P used calls (suc n) ss) (ceiling_from callee (suc n) ss) (λ m. behind m rest (ltb n m) refl) s)))
    where
      behind : (m : ℕ) → RunFrom (suc n) ss → (b : Bool) → ltb n m ≡ b → RunsAt (suc n) ss m (later_state P n m)
      behind m rest true e = unfold later_state only_if in rw e (rest m (ltb-true n m e))
      behind m rest false e = unfold later_state only_if in rw e if_none

      go : (m : ℕ) → n ≤ m → RunFrom (suc n) ss → (x : Bool) → eqb m n ≡ x
          → Parses (1 + (ceiling_stmt callee no_table s.body
          + ceiling_transition callee (ceiling_from callee (suc n) ss) s.transition))
          (run_state P used calls (run_from P used calls (suc n) ss) s)
          → RunsAt n (s ∷ ss) m (get_elem? P.states m)
      go m h rest true e here = rw (e, ceiling_from, run_from, eqb-true m n e, rw (add-zero n) at (b 0)) (if_some here)
      go m h rest false e here = let ne : ¬ (m ≡ n) = eqb-false m n e in rw (e, ceiling_from, run_from) (rest m (omega arith))

  parser-from : (ss : List ParserState) → P.states ≡ ss → IfOk (λ _. Parses (ceiling_from callee 0 ss 0)
      (run_parser P used calls ss)) (judge_states P 0 ss)
  unfolding judge_states run_parser ceiling_from
  parser-from [] e = is_ok (runs-pure at_most _ ok_onward)
  parser-from (s ∷ ss) e = ok-map (states-ok 0 (s ∷ ss) (λ i. rw (zero-add i, e) refl)) λ _ h.
      let first : get_elem? P.states 0 ≡ some s = ap (λ xs. get_elem? xs 0) e in from_some (rw first at (h 0 (omega arith)))

  pub parser-ok : IfOk (λ _. Parses (ceiling_parser callee P) (run_parser P used calls P.states))
      (judge_states P 0 P.states)
  unfolding ceiling_parser
  parser-ok = parser-from P.states refl
