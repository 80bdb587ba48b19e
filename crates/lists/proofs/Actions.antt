-- An action of a table's list: its position, and its arguments, one for each parameter.
use mathlib.Core.Bool.{true}
use mathlib.Core.Option.{Option, none, some}
use mathlib.Core.Path.{◌≡◌, refl, ◌∙◌}
use mathlib.Core.List.{List, [], ◌∷◌}
use Prim.Native.Nat.{ℕ, suc, ◌+◌, ◌-◌, ◌*◌, ◌^◌, ◌≤◌, ◌<◌}
use native.Mathlib.Omega.{arith}
use native.Mathlib.Nat.{sub-zero}
use native.Mathlib.Numerals.{add-one}
use lib.ListN.{length, get_or, drop}
use Rattle.rules.specs.Words.{widest}
use Rattle.rules.specs.Syntax.{Parameter, Callable, Table, Program}
use Rattle.rules.specs.Reading.{and_then, ◌>>=◌, pure, meaning}
use Rattle.rules.specs.Form.{and_look, fits}
use Rattle.rules.specs.Lists.{passing, asked, action_at, numbered, read_arguments}
use Rattle.rules.proofs.Predicates.{no_member}
use Rattle.rules.proofs.Readers.{looked-in, looked-out}
use Rattle.shape.specs.Scans.{Scan, Past, Fault}
use Rattle.shape.specs.Scans.{forget, scan_of}
use Rattle.program.specs.Codes.{ty_of}
use Rattle.program.specs.Stands.{Holds, StandsNumeral, StandsProgram}
use Rattle.program.specs.Looks.{Has, Finds, callables_of, FoundHead}
use Rattle.program.proofs.Firsts.{FirstParameter, first-parameter}
use Rattle.program.proofs.Found.{At, member-at}
use Rattle.program.proofs.Members.{numeral-at}
use Rattle.lists.specs.Parts.{Lacks, Typed, AsksArguments, JudgesArguments, arguments_of, AsksCalled, JudgesCalled}
use Rattle.lists.specs.Parts.{read_action, ListsActions, AsksAction, JudgesAction}
use Rattle.lists.proofs.Places.{placed-passing}
use Rattle.lists.proofs.Steps.{then-fault, then-past, alike-made, alike-scan}

-- the parameters behind the first
typed-behind : {nums : List ℕ} {parameter count : ℕ} {ps : List Parameter} → (o : FirstParameter nums parameter count ps)
    → Typed nums (parameter + 2) (count - 1) o.others
typed-behind o = record { stands = o.rest; counted = o.fewer }

-- what the step over a parameter asks
module _ (nums : List ℕ) (parameter count : ℕ) (h : AsksArguments nums parameter count) (more : count ≡ 0 → ⊥) where
  asked-parameter : FirstParameter nums parameter count h.parameters
  asked-parameter = first-parameter nums parameter count h.parameters h.typed.stands h.typed.counted more

  pub type-inside : parameter + 1 < length nums
  type-inside = asked-parameter.ty.inside

  pub type-most : get_or nums (parameter + 1) 0 ≤ widest
  type-most = asked-parameter.ty.most

  pub parameters-left : AsksArguments nums (parameter + 2) (count - 1)
  parameters-left = record { parameters = asked-parameter.others; typed = typed-behind asked-parameter; numbers = h.numbers }

-- the arguments for parameters, one after the other
module _ (nums : List ℕ) (parameter count at : ℕ) where
  pub arguments-none : count ≡ 0 → JudgesArguments nums parameter count at (Past at)
  unfolding read_arguments scan_of forget pure
  arguments-none e = record { judged = go }
    where
      go : (P : Program) (ps : List Parameter) → Typed nums parameter count ps
          → Past at ≡ scan_of (read_arguments true P ps) nums at
      go P [] h = refl
      go P (p ∷ ps) h = absurd (omega (arith, e, h.counted))

  module _ (a : Scan) (more : count ≡ 0 → ⊥)
      (q : a ≡ scan_of (passing 10 (fits (ty_of (get_or nums (parameter + 1) 0)))) nums at)
    where
      pub arguments-past : (n : ℕ) (r : Scan) → a ≡ Past n → JudgesArguments nums (parameter + 2) (count - 1) n r
          → JudgesArguments nums parameter count at r
      unfolding read_arguments asked
      arguments-past n r p g = record {
        judged = λ P ps h.
            let o : FirstParameter nums parameter count ps = first-parameter nums parameter count ps h.stands h.counted more in
            let s : r ≡ scan_of (read_arguments true P o.others) nums n
            = g.judged P o.others (typed-behind o) in
            rw o.same
            (then-past _ _ nums at n a r (placed-passing 10 (fits o.first.ty)) (rw o.ty.is at q) p
            λ x. alike-scan nums n r (alike-made (read_arguments true P o.others) _) s);
      }

      pub arguments-fault : (f i : ℕ) → a ≡ Fault f i → JudgesArguments nums parameter count at (Fault f i)
      unfolding read_arguments asked
      arguments-fault f i p = record {
        judged = λ P ps h.
            let o : FirstParameter nums parameter count ps = first-parameter nums parameter count ps h.stands h.counted more in
            rw o.same (then-fault _ _ nums at f i a (rw o.ty.is at q) p);
      }

-- so many arguments, of which some are done: what the rest is judged to be, all are
pub record ArgumentsLeft (nums : List ℕ) (parameter count at done next : ℕ) : Type 0 where
  pub asks : AsksArguments nums parameter count → AsksArguments nums (parameter + 2 * done) (count - done)
  pub rest : (r : Scan) → JudgesArguments nums (parameter + 2 * done) (count - done) next r
      → JudgesArguments nums parameter count at r

pub parameters-first : (nums : List ℕ) (parameter count at : ℕ) → ArgumentsLeft nums parameter count at 0 at
parameters-first nums parameter count at =
    let e : parameter + 2 * 0 ≡ parameter = omega arith in
    record { asks = λ h. rw (sub-zero, e) h; rest = λ r h. rw (sub-zero, e) at h }

module _ (nums : List ℕ) (parameter count at done next : ℕ) (w : ArgumentsLeft nums parameter count at done next) where
  module _ (m : done < count) where
    more : count - done ≡ 0 → ⊥
    more e = omega (arith, e)

    fewer : count - done - 1 ≡ count - (done + 1)
    fewer = omega arith

    further : parameter + 2 * done + 2 ≡ parameter + 2 * (done + 1)
    further = omega arith

    module _ (h : AsksArguments nums parameter count) where
      pub parameter-inside : parameter + 2 * done + 1 < length nums
      parameter-inside = type-inside nums (parameter + 2 * done) (count - done) (w.asks h) more

      pub parameter-next : parameter + 2 * done + 1 < 2 ^ 64
      parameter-next = omega (arith, parameter-inside, h.numbers)

      -- the index behind it
      pub parameter-behind : parameter + 2 * done + 2 < 2 ^ 64
      parameter-behind = omega (arith, parameter-inside, h.numbers)

      pub parameter-most : get_or nums (parameter + 2 * done + 1) 0 ≤ widest
      parameter-most = type-most nums (parameter + 2 * done) (count - done) (w.asks h) more

    module _ (a : Scan)
        (q : a ≡ scan_of (passing 10 (fits (ty_of (get_or nums (parameter + 2 * done + 1) 0)))) nums next) where
      pub parameters-past : (n : ℕ) → a ≡ Past n → ArgumentsLeft nums parameter count at (done + 1) n
      parameters-past n p = record {
        asks = λ h. rw (← further, ← fewer) (parameters-left nums (parameter + 2 * done) (count - done) (w.asks h) more);
        rest = λ r h.
            w.rest r
            (arguments-past nums (parameter + 2 * done) (count - done) next a more q n r p
            (rw (← further, ← fewer) at h));
      }

      pub parameters-fault : (f i : ℕ) → a ≡ Fault f i → JudgesArguments nums parameter count at (Fault f i)
      parameters-fault f i p = w.rest (Fault f i)
          (arguments-fault nums (parameter + 2 * done) (count - done) next a more q f i p)

  pub parameters-none : count ≤ done → JudgesArguments nums parameter count at (Past next)
  parameters-none m = w.rest (Past next)
      (arguments-none nums (parameter + 2 * done) (count - done) next (omega arith))

pub ruleset parameters = (
  parameter-inside,
  parameter-next,
  parameter-most,
  parameters-first,
  parameters-past,
  parameters-fault,
  parameters-none,
)

-- a callable's arguments
module _ (nums directory ends : List ℕ) (f at : ℕ) where
  pub called-asks : AsksCalled nums directory ends at → f < get_or directory 42 0 → Has callables_of nums directory ends f
  unfolding callables_of
  called-asks h l = record {
    program = h.asks.program;
    end = h.asks.end;
    stands = h.asks.stands;
    inside = rw h.asks.stands.callables.count at l;
  }

  module _ (kind returns parameter count : ℕ)
      (found : Finds callables_of (FoundHead nums kind returns parameter count) nums directory ends f)
      (l : f < get_or directory 42 0)
    where
      typed-by : (P : Program) (end : ℕ) → StandsProgram nums directory ends P end → (m : At P.callables f)
          → Typed nums parameter count m.member.parameters
      unfolding callables_of
      typed-by P end s m =
          let k : FoundHead nums kind returns parameter count m.member = found.finds P end m.member s m.is in
          record { stands = k.parameters_stand; counted = k.count_is }

      member_of : (P : Program) (end : ℕ) → StandsProgram nums directory ends P end → At P.callables f
      member_of P end s = member-at P.callables f (rw s.callables.count at l)

      pub called-arguments : AsksCalled nums directory ends at → AsksArguments nums parameter count
      called-arguments h = record {
        parameters = (member_of h.asks.program h.asks.end h.asks.stands).member.parameters;
        typed = typed-by h.asks.program h.asks.end h.asks.stands
            (member_of h.asks.program h.asks.end h.asks.stands);
        numbers = h.asks.stands.numbers;
      }

      pub called-is : (r : Scan) → JudgesArguments nums parameter count (at + 1) r
          → JudgesCalled nums directory ends f at r
      unfolding arguments_of
      called-is r g = record {
        judged = λ P end s.
            let m : At P.callables f = member_of P end s in
            rw m.is (g.judged P m.member.parameters (typed-by P end s m));
      }

  pub called-none : get_or directory 42 0 ≤ f → JudgesCalled nums directory ends f at (Fault 10 at)
  unfolding arguments_of
  called-none l = record {
    judged = λ P end s. rw (no_member P.callables f (rw s.callables.count at l));
  }

pub ruleset calls = (called-asks, called-arguments, called-is, called-none)

-- an action's position is looked up in the list, and its number among the callables
action-scan : (P : Program) (T : Table) (nums : List ℕ) (at n : ℕ) → Holds nums at n
    → scan_of (read_action P T) nums at ≡ arguments_of P nums at (action_at P T n)
unfolding read_action scan_of forget ◌>>=◌ and_then meaning numbered and_look arguments_of
action-scan P T nums at n h =
    rw (looked-in 10 (numbered (action_at P T)) nums at h.inside, h.is) (go (action_at P T n) refl)
  where
    go : (o : Option Callable) → action_at P T n ≡ o
        → forget (and_then (meaning 10 (numbered (action_at P T) n) (drop (suc at) nums) at)
        (λ action. read_arguments true P action.1.parameters)) ≡ arguments_of P nums at o
    go none e = rw e
    go (some c) e = rw (e, add-one at)

module _ (nums directory ends : List ℕ) (actions : ℕ) where
  listed_at : (T : Table) → ListsActions nums actions T → (i : ℕ) → i < get_or nums actions 0 → At T.actions i
  listed_at T h i l = member-at T.actions i (rw h.count.holds.is at l)

  listed-stands : (T : Table) (h : ListsActions nums actions T) (i : ℕ) (l : i < get_or nums actions 0)
      → StandsNumeral nums (actions + 1 + i) (listed_at T h i l).member
  listed-stands T h i l =
      numeral-at nums (actions + 1) T.actions h.stand i (listed_at T h i l).member (listed_at T h i l).is

  -- what a look at the list asks
  pub actions-inside : AsksAction nums directory ends actions → actions < length nums
  actions-inside h = h.lists.count.holds.inside

  pub actions-next : AsksAction nums directory ends actions → actions + 1 < 2 ^ 64
  actions-next h = omega (arith, h.lists.count.holds.inside, h.asks.stands.numbers)

  pub position-inside : (i : ℕ) → AsksAction nums directory ends actions → i < get_or nums actions 0
      → actions + 1 + i < length nums
  position-inside i h l = (listed-stands h.table h.lists i l).holds.inside

  pub position-next : (i : ℕ) → AsksAction nums directory ends actions → i < get_or nums actions 0
      → actions + 1 + i < 2 ^ 64
  position-next i h l = omega (arith, position-inside i h l, h.asks.stands.numbers)

  module _ (at : ℕ) where
    pub action-asks : (n : ℕ) → AsksAction nums directory ends actions → Holds nums at n
        → AsksCalled nums directory ends at
    action-asks n h l = record { asks = h.asks; inside = l.inside }

    pub action-is : (n : ℕ) (r : Scan) → Holds nums at n → n < get_or nums actions 0
        → JudgesCalled nums directory ends (get_or nums (actions + 1 + n) 0) at r
        → JudgesAction nums directory ends actions at r
    unfolding action_at and_look
    action-is n r h l g = record {
      judged = λ P end T s lists.
          let m : At T.actions n = listed_at T lists n l in
          let k : StandsNumeral nums (actions + 1 + n) m.member = listed-stands T lists n l in
          g.judged P end s ∙ rw (action-scan P T nums at n h, m.is, k.holds.is);
    }

    pub action-none : (n : ℕ) → Holds nums at n → get_or nums actions 0 ≤ n
        → JudgesAction nums directory ends actions at (Fault 10 at)
    unfolding action_at and_look arguments_of
    action-none n h l = record {
      judged = λ P end T s lists.
          rw (action-scan P T nums at n h, no_member T.actions n (rw lists.count.holds.is at l));
    }

    pub action-missing : (n i : ℕ) → Lacks nums 10 at n i → JudgesAction nums directory ends actions at (Fault n i)
    unfolding read_action scan_of forget ◌>>=◌ and_then
    action-missing n i h = record {
      judged = λ P end T s lists.
          rw (h.number_is, h.index_is, looked-out 10 (numbered (action_at P T)) nums at h.beyond);
    }

pub ruleset actions = (
  actions-inside,
  actions-next,
  position-inside,
  position-next,
  action-asks,
  action-is,
  action-none,
  action-missing,
)
