-- The cycle of statements: what each step asks of the next, what it learns from it, and that the measure falls with the
-- depth. The members of a block are a loop: what is pending of them.
use Rattle.program.specs.declared.Scope as coded
use mathlib.Core.Bool.{Bool, true, false, ◌&&◌, ◌||◌}
use mathlib.Core.Path.{◌≡◌, refl, sym, ap, ◌∙◌}
use mathlib.Core.List.{List}
use Prim.Native.Nat.{ℕ, ◌+◌, ◌-◌, ◌≤◌, ◌<◌}
use native.Mathlib.Omega.{arith}
use lib.ListN.{length, get_or}
use lib.Dec.{eqb}
use Rattle.std.specs.Prelude.{Ok, Err}
use Rattle.rules.specs.declared.Fault.{Fault}
use Rattle.rules.specs.Answers.{number_of}
use Rattle.rules.specs.Numbers.{most_bytes}
use Rattle.rules.specs.Syntax.{Expr, Stmt, if_else, Stmts, stmt}
use Rattle.rules.specs.Form.{Res, ok, fault, ◌>>=◌, need, Scope, judge_expr, judge_stmt, judge_stmts, returns_on, some_returns}
use Rattle.program.specs.Codes.{ty_of, member_count}
use Rattle.program.specs.Stands.{StandsStmt, StandsStmts}
use Rattle.program.specs.Scopes.{StandsScope}
use Rattle.program.proofs.Views.{expr-begins, StmtView, IfView, BlockView, stmt-view, stmt-begins, MemberView, no-members, member-view}
use Rattle.bodies.specs.Claims.{Formed, AsksExpr, JudgesExpr, told_stmt, AsksStmt, JudgesStmt}
use Rattle.bodies.specs.Forms.{Forms, ruled, chosen_as, AsksTagged, AsksSingle, AsksBranches, JudgesBranches, AsksStmts, JudgesStmts}
use Rattle.bodies.proofs.Choosing.{chosen-forms}
use Rattle.bodies.proofs.Typing.{bool-rule}
use Rattle.bodies.proofs.Operating.{typed-is, fault-is}
use Rattle.bodies.proofs.Judging.{rank}

-- the measure
module _ (nums directory ends : List ℕ) (scope : coded.Scope) (depth at t : ℕ) where
  pub to-if : rank depth 2 ≡ t → rank depth 1 < t
  unfolding rank
  to-if e = omega arith

  pub to-stmt : rank depth 3 ≡ t → rank depth 2 < t
  unfolding rank
  to-stmt e = omega arith

  pub to-branches : AsksTagged 2 nums directory ends scope depth at → rank depth 1 ≡ t → rank (depth - 1) 3 < t
  unfolding rank
  to-branches asks e = omega (arith, stmt-begins asks.asks.stands)

  pub to-members : AsksStmt nums directory ends scope depth at → rank depth 2 ≡ t → rank (depth - 1) 3 < t
  unfolding rank
  to-members asks e = omega (arith, stmt-begins asks.stands)

pub ruleset sinking = (to-if, to-stmt, to-branches, to-members)

-- what an answer says of the statement that it is about
pub record FineOf (x : Res (Unit {0})) (b c : Bool) : Type 0 where
  pub is : x ≡ ok tt
  pub same : b ≡ c

fine_of : (x : Res (Unit {0})) (b c : Bool) → ok b ≡ (x >>= λ _. ok c) → FineOf x b c
unfolding ◌>>=◌
fine_of (ok u) b c e = record { is = refl; same = cc }
fine_of (fault number index) b c e = let z : ◌≡◌ {A = ℕ} 0 1 = cc in absurd (omega arith)

faulty-of : (x : Res (Unit {0})) (number index : ℕ) (c : Bool) → fault number index ≡ (x >>= λ _. ok c)
    → x ≡ fault number index
unfolding ◌>>=◌
faulty-of (ok u) number index c e = let z : ◌≡◌ {A = ℕ} 0 1 = cc in absurd (omega arith)
faulty-of (fault m i) number index c e =
    let f : m ≡ number = cc in
    let g : i ≡ index = cc in
    rw (f, g)

module _ {nums directory ends : List ℕ} {scope : coded.Scope} {depth at : ℕ} where
  pub fine-is : {b : Bool} → JudgesStmt nums directory ends scope depth at (Ok b) → (Γ : Scope) (s : Stmt)
      → StandsScope nums directory ends scope Γ → StandsStmt nums ends depth at s
      → FineOf (judge_stmt Γ s) b (returns_on s)
  unfolding told_stmt
  fine-is j Γ s z h = fine_of (judge_stmt Γ s) _ (returns_on s) (j.judged Γ s z h)

  pub faulty-is : {wrong : Fault} → JudgesStmt nums directory ends scope depth at (Err wrong) → (Γ : Scope) (s : Stmt)
      → StandsScope nums directory ends scope Γ → StandsStmt nums ends depth at s
      → judge_stmt Γ s ≡ fault (number_of wrong.reason) wrong.index
  unfolding told_stmt
  faulty-is j Γ s z h = faulty-of (judge_stmt Γ s) _ _ (returns_on s) (j.judged Γ s z h)

-- the branches of an if
module _ (nums directory ends : List ℕ) (scope : coded.Scope) (depth at : ℕ) where
  module _ (asks : AsksBranches nums directory ends scope depth at) where
    pub first-branch : AsksStmt nums directory ends scope depth at
    first-branch =
        record { scope_of = asks.scope_of; stmt = asks.first; seen = asks.seen; stands = asks.first_stands }

    pub second-branch : AsksStmt nums directory ends scope depth (get_or ends at 0)
    second-branch =
        record { scope_of = asks.scope_of; stmt = asks.second; seen = asks.seen; stands = asks.second_stands }

    pub branch-ends : at < length ends
    branch-ends = omega (arith, stmt-begins asks.first_stands, asks.seen.program.room)

  pub first-faulty : (wrong : Fault) → JudgesStmt nums directory ends scope depth at (Err wrong)
      → JudgesBranches nums directory ends scope depth at (Err wrong)
  unfolding told_stmt ◌>>=◌
  first-faulty wrong j = record {
    judged = λ Γ s u z h i. rw (faulty-is j Γ s z h);
  }

  module _ (x : Bool) (j : JudgesStmt nums directory ends scope depth at (Ok x)) where
    pub second-faulty : (wrong : Fault) → JudgesStmt nums directory ends scope depth (get_or ends at 0) (Err wrong)
        → JudgesBranches nums directory ends scope depth at (Err wrong)
    unfolding told_stmt ◌>>=◌
    second-faulty wrong l = record {
      judged = λ Γ s u z h i. rw ((fine-is j Γ s z h).is, faulty-is l Γ u z i);
    }

    pub branches-fine : (y c : Bool) → JudgesStmt nums directory ends scope depth (get_or ends at 0) (Ok y)
        → c ≡ (x && y) → JudgesBranches nums directory ends scope depth at (Ok c)
    unfolding told_stmt ◌>>=◌
    branches-fine y c l e = record {
      judged = λ Γ s u z h i.
          let f : FineOf (judge_stmt Γ s) x (returns_on s) = fine-is j Γ s z h in
          let g : FineOf (judge_stmt Γ u) y (returns_on u) = fine-is l Γ u z i in
          let q : c ≡ (returns_on s && returns_on u) = cc in
          rw (f.is, g.is, q);
    }

pub ruleset branching = (first-branch, second-branch, branch-ends, first-faulty, second-faulty, branches-fine)

-- an if, from its condition and its branches
if-then : (x y n : Res (Unit {0})) (b : Bool)
    → ((x >>= λ _. y >>= λ _. ok b) >>= λ returns. n >>= λ _. ok returns) ≡ ((x >>= λ _. y >>= λ _. n) >>= λ _. ok b)
unfolding ◌>>=◌
if-then (ok u) (ok v) n b = refl
if-then (ok u) (fault number index) n b = refl
if-then (fault number index) y n b = refl

if-is : (Γ : Scope) (at t : ℕ) (c : Expr) (a b s : Stmt) → s ≡ if_else at c a b → judge_expr Γ c ≡ ok (ty_of t)
    → ((judge_stmt Γ a >>= λ _. judge_stmt Γ b >>= λ _. need 7 at (eqb t 0)) >>= λ _. ok (returns_on a && returns_on b))
    ≡ (judge_stmt Γ s >>= λ _. ok (returns_on s))
unfolding judge_stmt returns_on ◌>>=◌
if-is Γ at t c a b s e f = rw (e, f, bool-rule at t)

module _ (nums directory ends : List ℕ) (scope : coded.Scope) (depth at : ℕ) where
  if-of : (s : Stmt) → StandsStmt nums ends depth at s → get_or nums at 0 ≡ 2 → IfView nums ends depth at s
  unfolding StmtView
  if-of s h k = rw k at (stmt-view h)

  module _ (asks : AsksTagged 2 nums directory ends scope depth at) where
    abbrev some_if : IfView nums ends depth at asks.asks.stmt
    some_if = if-of asks.asks.stmt asks.asks.stands asks.is

    pub condition-asks : AsksExpr nums directory ends scope (depth - 1) (at + 1)
    condition-asks = record {
      scope_of = asks.asks.scope_of;
      expr = some_if.condition;
      seen = asks.asks.seen;
      stands = some_if.condition_stands;
    }

    pub condition-small : at + 1 < most_bytes
    condition-small = omega (arith, expr-begins some_if.condition_stands)

    pub condition-ends : at + 1 < length ends
    condition-ends = omega (arith, expr-begins some_if.condition_stands, asks.asks.seen.program.room)

    pub if-deep : 0 < depth
    if-deep = (stmt-begins asks.asks.stands).levels

    pub branches-ask : AsksBranches nums directory ends scope (depth - 1) (get_or ends (at + 1) 0)
    branches-ask = record {
      scope_of = asks.asks.scope_of;
      first = some_if.first;
      second = some_if.second;
      seen = asks.asks.seen;
      first_stands = some_if.first_stands;
      second_stands = some_if.second_stands;
    }

    pub condition-fault : (wrong : Fault) → JudgesExpr nums directory ends scope (depth - 1) (at + 1) (Err wrong)
        → JudgesStmt nums directory ends scope depth at (Err wrong)
    unfolding told_stmt judge_stmt ◌>>=◌
    condition-fault wrong j = record {
      judged = λ Γ s z h.
          let v : IfView nums ends depth at s = if-of s h asks.is in
          rw (v.same, fault-is j Γ v.condition z v.condition_stands);
    }

    pub if-told : (t : ℕ) → JudgesExpr nums directory ends scope (depth - 1) (at + 1) (Ok t) → (b : Formed)
        → JudgesBranches nums directory ends scope (depth - 1) (get_or ends (at + 1) 0) b → (r : Formed)
        → Forms r (chosen_as at t (told_stmt b)) → JudgesStmt nums directory ends scope depth at r
    unfolding chosen_as ruled
    if-told t j b l r f = record {
      judged = λ Γ s z h.
          let v : IfView nums ends depth at s = if-of s h asks.is in
          f.judged
          ∙ ap (λ x. x >>= λ returns. need 7 at (eqb t 0) >>= λ _. ok returns)
          (l.judged Γ v.first v.second z v.first_stands v.second_stands)
          ∙ if-then (judge_stmt Γ v.first) (judge_stmt Γ v.second) (need 7 at (eqb t 0))
          (returns_on v.first && returns_on v.second)
          ∙ if-is Γ at t v.condition v.first v.second s v.same
          (typed-is j Γ v.condition z v.condition_stands);
    }

pub ruleset choosing = (
  condition-asks,
  condition-small,
  condition-ends,
  if-deep,
  branches-ask,
  condition-fault,
  chosen-forms,
  if-told,
)

-- what is pending of a block's members, so many of which are done: those from an index on, and whether one before
-- them returns
record PendingOf (nums ends : List ℕ) (depth left next : ℕ) (returns : Bool) (Γ : Scope) (ss : Stmts) : Type 0 where
  rest : Stmts
  stand : StandsStmts nums ends depth next rest
  counted : left ≡ member_count rest
  same : (judge_stmts Γ ss >>= λ _. ok (some_returns ss)) ≡ (judge_stmts Γ rest >>= λ _. ok (returns || some_returns rest))

pub record Pending (nums directory ends : List ℕ) (scope : coded.Scope) (depth at count done next : ℕ) (returns : Bool)
    : Type 0 where
  asks : AsksStmts nums directory ends scope depth next (count - done)
  pending : (Γ : Scope) (ss : Stmts) → StandsScope nums directory ends scope Γ → StandsStmts nums ends depth at ss
      → count ≡ member_count ss → PendingOf nums ends depth (count - done) next returns Γ ss

either-none : (a : Bool) → ok (a || false) ≡ ok a
either-none true = refl
either-none false = refl

either_same : (a b c : Bool) → (a || (b || c)) ≡ ((a || b) || c)
either_same true b c = refl
either_same false b c = refl

next-pending : (Γ : Scope) (returns each b : Bool) (first : Stmt) (others rest ss : Stmts) → rest ≡ stmt first others
    → judge_stmt Γ first ≡ ok tt → each ≡ returns_on first → b ≡ (returns || each)
    → (judge_stmts Γ ss >>= λ _. ok (some_returns ss)) ≡ (judge_stmts Γ rest >>= λ _. ok (returns || some_returns rest))
    → (judge_stmts Γ ss >>= λ _. ok (some_returns ss)) ≡ (judge_stmts Γ others >>= λ _. ok (b || some_returns others))
unfolding judge_stmts some_returns ◌>>=◌
next-pending Γ returns each b first others rest ss e f g h k =
    k ∙ rw (e, f, h, g, either_same returns (returns_on first) (some_returns others))

module _ (nums directory ends : List ℕ) (scope : coded.Scope) (depth at count : ℕ) where
  pub pending-first : AsksStmts nums directory ends scope depth at count
      → Pending nums directory ends scope depth at count 0 at false
  pending-first asks =
      let all : count - 0 ≡ count = omega arith in
      record {
        asks = rw all asks;
        pending = λ Γ ss z h e. record { rest = ss; stand = h; counted = omega (arith, e); same = refl };
      }

  module _ (done next : ℕ) (returns : Bool)
      (p : Pending nums directory ends scope depth at count done next returns) where
    pub pending_done : count ≤ done → JudgesStmts nums directory ends scope depth at count (Ok returns)
    unfolding told_stmt judge_stmts some_returns ◌>>=◌
    pending_done k = record {
      judged = λ Γ ss z h e.
          let q : PendingOf nums ends depth (count - done) next returns Γ ss = p.pending Γ ss z h e in
          let n : member_count q.rest ≡ 0 = omega (arith, k, q.counted) in
          sym (q.same ∙ rw (no-members q.rest n) (either-none returns));
    }

    module _ (k : done < count) where
      abbrev some_left : count - done ≡ 0 → ⊥
      some_left e = omega (arith, k, e)

      abbrev some_member : MemberView nums ends depth next (count - done) p.asks.members
      some_member = member-view (count - done) p.asks.members p.asks.stand p.asks.counted some_left

      pub pending-asks : AsksStmt nums directory ends scope depth next
      pending-asks = record {
        scope_of = p.asks.scope_of;
        stmt = some_member.first;
        seen = p.asks.seen;
        stands = some_member.first_stands;
      }

      pub pending-ends : next < length ends
      pending-ends = omega (arith, stmt-begins some_member.first_stands, p.asks.seen.program.room)

      pub pending-fault : (wrong : Fault) → JudgesStmt nums directory ends scope depth next (Err wrong)
          → JudgesStmts nums directory ends scope depth at count (Err wrong)
      unfolding told_stmt judge_stmts ◌>>=◌
      pending-fault wrong j = record {
        judged = λ Γ ss z h e.
            let q : PendingOf nums ends depth (count - done) next returns Γ ss = p.pending Γ ss z h e in
            let v : MemberView nums ends depth next (count - done) q.rest
            = member-view (count - done) q.rest q.stand q.counted some_left in
            sym (q.same ∙ rw (v.same, faulty-is j Γ v.first z v.first_stands));
      }

      pub pending_next : (each b : Bool) → JudgesStmt nums directory ends scope depth next (Ok each)
          → b ≡ (returns || each)
          → Pending nums directory ends scope depth at count (done + 1) (get_or ends next 0) b
      pending_next each b j e =
          let fewer : count - (done + 1) ≡ count - done - 1 = omega arith in
          record {
            asks = rw fewer (record {
              scope_of = p.asks.scope_of;
              members = some_member.others;
              seen = p.asks.seen;
              stand = some_member.others_stand;
              counted = some_member.fewer;
            });
            pending = λ Γ ss z h i.
                let q : PendingOf nums ends depth (count - done) next returns Γ ss = p.pending Γ ss z h i in
                let v : MemberView nums ends depth next (count - done) q.rest
                = member-view (count - done) q.rest q.stand q.counted some_left in
                let f : FineOf (judge_stmt Γ v.first) each (returns_on v.first)
                = fine-is j Γ v.first z v.first_stands in
                record {
                  rest = v.others;
                  stand = v.others_stand;
                  counted = omega (arith, v.fewer);
                  same = next-pending Γ returns each b v.first v.others q.rest ss v.same f.is f.same e
                      q.same;
                };
          }

pub ruleset pending = (pending-first, pending_done, pending-asks, pending-ends, pending-fault, pending_next)

-- a statement, by its tag
module _ (nums directory ends : List ℕ) (scope : coded.Scope) (depth at : ℕ) where
  block_of : (s : Stmt) → StandsStmt nums ends depth at s → get_or nums at 0 ≡ 3 → BlockView nums ends depth at s
  unfolding StmtView
  block_of s h k = rw k at (stmt-view h)

  module _ (asks : AsksStmt nums directory ends scope depth at) where
    pub stmt-inside : at < length nums
    stmt-inside = (stmt-begins asks.stands).inside

    pub stmt-next : at + 1 < most_bytes + 2
    stmt-next = omega (arith, stmt-inside)

    pub stmt-second : at + 2 < most_bytes + 2
    stmt-second = omega (arith, stmt-inside)

    pub stmt-deep : 0 < depth
    stmt-deep = (stmt-begins asks.stands).levels

    pub if-asks : get_or nums at 0 ≡ 2 → AsksTagged 2 nums directory ends scope depth at
    if-asks k = record { asks = asks; is = k }

    pub single-asks : (get_or nums at 0 ≡ 2 → ⊥) → (get_or nums at 0 ≡ 3 → ⊥)
        → AsksSingle nums directory ends scope depth at
    single-asks x y = record { asks = asks; no_if = x; no_block = y }

    module _ (k : get_or nums at 0 ≡ 3) where
      abbrev some_block : BlockView nums ends depth at asks.stmt
      some_block = block_of asks.stmt asks.stands k

      pub members-inside : at + 1 < length nums
      members-inside = some_block.count.holds.inside

      pub members-ask : AsksStmts nums directory ends scope (depth - 1) (at + 2) (get_or nums (at + 1) 0)
      members-ask = record {
        scope_of = asks.scope_of;
        members = some_block.members;
        seen = asks.seen;
        stand = some_block.stand;
        counted = some_block.count.holds.is;
      }

  pub block-told : get_or nums at 0 ≡ 3 → (r : Formed)
      → JudgesStmts nums directory ends scope (depth - 1) (at + 2) (get_or nums (at + 1) 0) r
      → JudgesStmt nums directory ends scope depth at r
  unfolding judge_stmt returns_on
  block-told k r j = record {
    judged = λ Γ s z h.
        let v : BlockView nums ends depth at s = block_of s h k in
        j.judged Γ v.members z v.stand v.count.holds.is
        ∙ sym (ap (λ x. judge_stmt Γ x >>= λ _. ok (returns_on x)) v.same);
  }

pub ruleset stating = (
  stmt-inside,
  stmt-next,
  stmt-second,
  stmt-deep,
  if-asks,
  single-asks,
  members-inside,
  members-ask,
  block-told,
)
