-- The steps of the cycle, of statements.
use mathlib.Core.Path.{◌≡◌, sym, ◌∙◌}
use mathlib.Core.List.{List}
use Prim.Native.Nat.{ℕ, suc, ◌+◌, ◌-◌, ◌*◌, ◌≤◌, ◌<◌, ◌^◌, max}
use native.Mathlib.Omega.{arith}
use lib.ListN.{length, get_or}
use borrow.Author.Tests.{eq-eqb, ne_eqb}
use Rattle.rules.specs.Syntax.{Expr, Stmt, if_else, block, Stmts, no_stmts, Program}
use Rattle.rules.specs.Ceiling.{most_steps, ceiling_args, ceiling_stmt, ceiling_stmts}
use Rattle.program.specs.Codes.{member_count}
use Rattle.program.specs.Stands.{StandsStmt, StandsStmts}
use Rattle.program.proofs.Views.{stmt-begins, MemberView, member-view, no-members}
use Rattle.ceiling.specs.Cut.{cut}
use Rattle.ceiling.specs.declared.operands.Runs.{Runs}
use Rattle.ceiling.specs.declared.operands.Runs.TheVariants.{Branches, Members, Body, Applied, Nothing}
use Rattle.ceiling.specs.Claims.{callee_below, applied_in, Kept, TablesKept, Setting, Counted, operands_of, run_by}
use Rattle.ceiling.specs.Claims.{AsksHeldStmt, Operand, HeldStmt, RunsIn, runs-branches, runs-members, runs-body, runs-table, runs-nothing, HeldRuns}
use Rattle.ceiling.specs.Claims.{AsksExprs, CountsExprs, AsksCall, CountsCall, AsksStmt, CountsStmt, CountsRun, AsksBranches, CountsBranches, AsksStmts, CountsStmts, AsksApplied, CountsApplied}
use Rattle.ceiling.proofs.Rank.{rank, rank-lower}
use Rattle.ceiling.proofs.Sums.{cut_low, cut-zero, cut-own, cut-both, cut-max, cut-more, cut-begin, cut-done, ceil-stmt}
use Rattle.ceiling.proofs.Counting.{resumed}

-- a statement: its operands, then what it runs besides
module _ (nums directory ends tables kept : List ℕ) (reach depth at : ℕ)
    (a : AsksStmt nums directory ends tables kept reach depth at) where
  pub stmt-held : AsksHeldStmt nums ends depth at
  stmt-held = record {
    numbers = a.setting.stands.numbers;
    room = a.setting.stands.room;
    stmt = a.stmt;
    stands = a.stands;
  }

  module _ (lower first count : ℕ) (h : HeldStmt nums ends depth at lower first count) where
    held-operand : Operand nums ends depth lower first count (operands_of a.stmt)
    held-operand = h.operands a.stmt a.stands

    pub stmt-operands : AsksExprs nums directory ends kept reach lower first count
    stmt-operands = record {
      program = a.program;
      args = operands_of a.stmt;
      setting = a.setting;
      stand = held-operand.stand;
      counts = held-operand.counts;
      deep = omega (arith, held-operand.levels, a.deep);
    }

    pub stmt-operands-fall : (t : ℕ) → rank reach (4 * depth + 2) ≡ t → rank reach (4 * lower + 1) < t
    stmt-operands-fall t e =
        rank-lower t reach (4 * depth + 2) (4 * lower + 1) e (omega (arith, held-operand.levels))

    pub stmt-runs : (inside : ℕ) (kept₁ : List ℕ)
        → CountsExprs nums directory ends kept kept₁ reach lower first count inside
        → AsksStmt nums directory ends tables kept₁ reach depth at
    stmt-runs inside kept₁ c = record {
      program = a.program;
      stmt = a.stmt;
      setting = resumed a.setting
          (c.counted a.program (operands_of a.stmt) a.setting held-operand.stand held-operand.counts);
      table = a.table;
      tabled = a.tabled;
      stands = a.stands;
      deep = a.deep;
    }

pub stmt-runs-fall : (t reach depth : ℕ) → rank reach (4 * depth + 2) ≡ t → rank reach (4 * depth + 1) < t
stmt-runs-fall t reach depth e = rank-lower t reach (4 * depth + 2) (4 * depth + 1) e (omega arith)

pub stmt-counted : (nums directory ends tables kept kept₁ kept₂ : List ℕ)
    (reach depth at lower first count inside own run r : ℕ)
    → HeldStmt nums ends depth at lower first count
    → CountsExprs nums directory ends kept kept₁ reach lower first count inside
    → own ≡ cut (1 + inside) → CountsRun nums directory ends tables kept₁ kept₂ reach depth at run → r ≡ cut (own + run)
    → CountsStmt nums directory ends tables kept kept₂ reach depth at r
stmt-counted nums directory ends tables kept kept₁ kept₂ reach depth at lower first count inside own run r h c o d e
    = record {
      low = cut_low r (own + run) e;
      counted = λ P s setting table tabled w.
          let p : Operand nums ends depth lower first count (operands_of s) = h.operands s w in
          let q : Counted P (ceiling_args (callee_below P reach) (operands_of s)) inside kept₁
          = c.counted P (operands_of s) setting p.stand p.counts in
          let u : Counted P (run_by (callee_below P reach) (applied_in P reach table) s) run kept₂
          = d.counted P s (resumed setting q) table tabled w in
          record {
            is = cut-both own run r _ _ (cut-own inside own _ q.is o) u.is e
                ∙ rw (← ceil-stmt (callee_below P reach) (applied_in P reach table) s);
            keeps = u.keeps;
          };
    }

-- what it runs, by kind
record Branched (nums ends : List ℕ) (depth at lower first second : ℕ) (s : Stmt) : Type 0 where
  pub condition : Expr
  pub one : Stmt
  pub other : Stmt
  pub same : s ≡ if_else at condition one other
  pub levels : lower < depth
  pub one_stands : StandsStmt nums ends lower first one
  pub other_stands : StandsStmt nums ends lower second other

record Blocked (nums ends : List ℕ) (depth at lower first count : ℕ) (s : Stmt) : Type 0 where
  pub members : Stmts
  pub same : s ≡ block at members
  pub levels : lower < depth
  pub stand : StandsStmts nums ends lower first members
  pub counts : count ≡ member_count members

module _ (nums ends : List ℕ) (depth at : ℕ) (s : Stmt) where
  branched : (lower first second : ℕ) (r : Runs) → RunsIn nums ends depth at s r → r ≡ Branches lower first second
      → Branched nums ends depth at lower first second s
  branched lower first second r (runs-branches {lower = l} {first = f} {second = g} e h a b) q =
      let x : l ≡ lower = cc in
      let y : f ≡ first = cc in
      let z : g ≡ second = cc in
      rw (← x, ← y, ← z) (record {
        condition = _;
        one = _;
        other = _;
        same = e;
        levels = h;
        one_stands = a;
        other_stands = b;
      })
  branched lower first second r (runs-members e h a b) q = let z : ◌≡◌ {A = ℕ} 0 1 = cc in absurd (omega arith)
  branched lower first second r (runs-body e) q = let z : ◌≡◌ {A = ℕ} 0 1 = cc in absurd (omega arith)
  branched lower first second r (runs-table e) q = let z : ◌≡◌ {A = ℕ} 0 1 = cc in absurd (omega arith)
  branched lower first second r (runs-nothing e) q = let z : ◌≡◌ {A = ℕ} 0 1 = cc in absurd (omega arith)

  blocked : (lower first count : ℕ) (r : Runs) → RunsIn nums ends depth at s r → r ≡ Members lower first count
      → Blocked nums ends depth at lower first count s
  blocked lower first count r (runs-branches e h a b) q = let z : ◌≡◌ {A = ℕ} 0 1 = cc in absurd (omega arith)
  blocked lower first count r (runs-members {lower = l} {first = f} {count = k} e h a b) q =
      let x : l ≡ lower = cc in
      let y : f ≡ first = cc in
      let z : k ≡ count = cc in
      rw (← x, ← y, ← z) (record { members = _; same = e; levels = h; stand = a; counts = b })
  blocked lower first count r (runs-body e) q = let z : ◌≡◌ {A = ℕ} 0 1 = cc in absurd (omega arith)
  blocked lower first count r (runs-table e) q = let z : ◌≡◌ {A = ℕ} 0 1 = cc in absurd (omega arith)
  blocked lower first count r (runs-nothing e) q = let z : ◌≡◌ {A = ℕ} 0 1 = cc in absurd (omega arith)

  bodied : (f : ℕ) (r : Runs) → RunsIn nums ends depth at s r → r ≡ Body f
      → (callee table : ℕ → ℕ) → run_by callee table s ≡ callee f
  bodied f r (runs-branches e h a b) q = let z : ◌≡◌ {A = ℕ} 0 1 = cc in absurd (omega arith)
  bodied f r (runs-members e h a b) q = let z : ◌≡◌ {A = ℕ} 0 1 = cc in absurd (omega arith)
  bodied f r (runs-body {f = g} e) q = let x : g ≡ f = cc in rw (← x) e
  bodied f r (runs-table e) q = let z : ◌≡◌ {A = ℕ} 0 1 = cc in absurd (omega arith)
  bodied f r (runs-nothing e) q = let z : ◌≡◌ {A = ℕ} 0 1 = cc in absurd (omega arith)

  tabled : (t : ℕ) (r : Runs) → RunsIn nums ends depth at s r → r ≡ Applied t
      → (callee table : ℕ → ℕ) → run_by callee table s ≡ table t
  tabled t r (runs-branches e h a b) q = let z : ◌≡◌ {A = ℕ} 0 1 = cc in absurd (omega arith)
  tabled t r (runs-members e h a b) q = let z : ◌≡◌ {A = ℕ} 0 1 = cc in absurd (omega arith)
  tabled t r (runs-body e) q = let z : ◌≡◌ {A = ℕ} 0 1 = cc in absurd (omega arith)
  tabled t r (runs-table {t = u} e) q = let x : u ≡ t = cc in rw (← x) e
  tabled t r (runs-nothing e) q = let z : ◌≡◌ {A = ℕ} 0 1 = cc in absurd (omega arith)

  idle : (r : Runs) → RunsIn nums ends depth at s r → r ≡ Nothing → (callee table : ℕ → ℕ) → run_by callee table s ≡ 0
  idle r (runs-branches e h a b) q = let z : ◌≡◌ {A = ℕ} 0 1 = cc in absurd (omega arith)
  idle r (runs-members e h a b) q = let z : ◌≡◌ {A = ℕ} 0 1 = cc in absurd (omega arith)
  idle r (runs-body e) q = let z : ◌≡◌ {A = ℕ} 0 1 = cc in absurd (omega arith)
  idle r (runs-table e) q = let z : ◌≡◌ {A = ℕ} 0 1 = cc in absurd (omega arith)
  idle r (runs-nothing e) q = e

module _ (nums directory ends tables kept : List ℕ) (reach depth at : ℕ) (runs : Runs)
    (h : HeldRuns nums ends depth at runs) where
  module _ (a : AsksStmt nums directory ends tables kept reach depth at) where
    pub run-branches-asks : (lower first second : ℕ) → runs ≡ Branches lower first second
        → AsksBranches nums directory ends tables kept reach lower first second
    run-branches-asks lower first second e =
        let b : Branched nums ends depth at lower first second a.stmt
        = branched nums ends depth at a.stmt lower first second runs (h.runs a.stmt a.stands) e in
        record {
          program = a.program;
          setting = a.setting;
          table = a.table;
          tabled = a.tabled;
          one = b.one;
          other = b.other;
          one_stands = b.one_stands;
          other_stands = b.other_stands;
          deep = omega (arith, b.levels, a.deep);
        }

    pub run-branches-fall : (t lower first second : ℕ) → rank reach (4 * depth + 1) ≡ t
        → runs ≡ Branches lower first second
        → rank reach (4 * lower + 3) < t
    run-branches-fall t lower first second e q =
        rank-lower t reach (4 * depth + 1) (4 * lower + 3) e
        (omega (
          arith,
          (branched nums ends depth at a.stmt lower first second runs (h.runs a.stmt
              a.stands) q).levels,
        ))

    pub run-members-asks : (lower first count : ℕ) → runs ≡ Members lower first count
        → AsksStmts nums directory ends tables kept reach lower first count
    run-members-asks lower first count e =
        let b : Blocked nums ends depth at lower first count a.stmt
        = blocked nums ends depth at a.stmt lower first count runs (h.runs a.stmt a.stands) e in
        record {
          program = a.program;
          stmts = b.members;
          setting = a.setting;
          table = a.table;
          tabled = a.tabled;
          stand = b.stand;
          counts = b.counts;
          deep = omega (arith, b.levels, a.deep);
        }

    pub run-members-fall : (t lower first count : ℕ) → rank reach (4 * depth + 1) ≡ t → runs ≡ Members lower first count
        → rank reach (4 * lower + 3) < t
    run-members-fall t lower first count e q =
        rank-lower t reach (4 * depth + 1) (4 * lower + 3) e
        (omega (
          arith,
          (blocked nums ends depth at a.stmt lower first count runs (h.runs a.stmt
              a.stands) q).levels,
        ))

  module _ (kept₁ : List ℕ) (r : ℕ) where
    pub run-branches : (lower first second : ℕ) → runs ≡ Branches lower first second
        → CountsBranches nums directory ends tables kept kept₁ reach lower first second r
        → CountsRun nums directory ends tables kept kept₁ reach depth at r
    unfolding run_by
    run-branches lower first second e c = record {
      low = c.low;
      counted = λ P s setting table tabled w.
          let b : Branched nums ends depth at lower first second s
          = branched nums ends depth at s lower first second runs (h.runs s w) e in
          rw b.same (c.counted P b.one b.other setting table tabled b.one_stands b.other_stands);
    }

    pub run-members : (lower first count : ℕ) → runs ≡ Members lower first count
        → CountsStmts nums directory ends tables kept kept₁ reach lower first count r
        → CountsRun nums directory ends tables kept kept₁ reach depth at r
    unfolding run_by
    run-members lower first count e c = record {
      low = c.low;
      counted = λ P s setting table tabled w.
          let b : Blocked nums ends depth at lower first count s
          = blocked nums ends depth at s lower first count runs (h.runs s w) e in
          rw b.same (c.counted P b.members setting table tabled b.stand b.counts);
    }

    pub run-body : (f : ℕ) → runs ≡ Body f → CountsCall nums directory ends kept kept₁ reach f r
        → CountsRun nums directory ends tables kept kept₁ reach depth at r
    run-body f e c = record {
      low = c.low;
      counted = λ P s setting table tabled w.
          rw (bodied nums ends depth at s f runs (h.runs s w) e (callee_below P reach) (applied_in P reach table))
          (c.counted P setting);
    }

  pub run-table : (a : AsksStmt nums directory ends tables kept reach depth at) (t r : ℕ) → runs ≡ Applied t
      → CountsApplied directory tables reach t r → CountsRun nums directory ends tables kept kept reach depth at r
  run-table a t r e c = record {
    low = cut_low r _ (c.counted nums ends a.program a.setting.end a.setting.stands a.table a.tabled);
    counted = λ P s setting table tables-kept w.
        rw (tabled nums ends depth at s t runs (h.runs s w) e (callee_below P reach) (applied_in P reach table))
        (record { is = c.counted nums ends P setting.end setting.stands table tables-kept; keeps = setting.keeps });
  }

  pub run-nothing : runs ≡ Nothing → CountsRun nums directory ends tables kept kept reach depth at 0
  run-nothing e = record {
    low = omega arith;
    counted = λ P s setting table tabled w.
        rw (idle nums ends depth at s runs (h.runs s w) e (callee_below P reach) (applied_in P reach table))
        (record { is = cut-zero; keeps = setting.keeps });
  }

pub run-call-asks : (nums directory ends tables kept : List ℕ) (reach depth at : ℕ)
    → AsksStmt nums directory ends tables kept reach depth at → AsksCall nums directory ends kept reach
run-call-asks nums directory ends tables kept reach depth at a = record { program = a.program; setting = a.setting }

pub run-call-fall : (t reach depth : ℕ) → rank reach (4 * depth + 1) ≡ t → rank reach 0 < t
run-call-fall t reach depth e = rank-lower t reach (4 * depth + 1) 0 e (omega arith)

pub run-applied-asks : (nums directory ends tables kept : List ℕ) (reach depth at : ℕ)
    → AsksStmt nums directory ends tables kept reach depth at → AsksApplied directory
run-applied-asks nums directory ends tables kept reach depth at a = record {
  nums = nums;
  ends = ends;
  program = a.program;
  end = a.setting.end;
  stands = a.setting.stands;
}

-- what an apply runs, from the tables' kept ceilings
module _ (directory tables : List ℕ) (reach t : ℕ) (a : AsksApplied directory) where
  pub table-slot : t < get_or directory 59 0 → t < 8
  table-slot h = omega (arith, a.stands.tables.count, a.stands.tables.few)

  pub table-scaled : t < get_or directory 59 0 → t * 8 < 2 ^ 64
  table-scaled h = omega (arith, table-slot h)

module _ (directory tables : List ℕ) (reach t : ℕ) where
  pub applied-table : reach ≡ get_or directory 42 0 → t < get_or directory 59 0
      → CountsApplied directory tables reach t (get_or tables t 0)
  unfolding applied_in
  applied-table e h = record {
    counted = λ nums ends P end s table k.
        let here : reach ≡ length P.callables = e ∙ s.callables.count in
        k.slot here t (omega (arith, s.tables.count)) ∙ rw (applied_in, eq-eqb reach (length P.callables) here);
  }

  pub applied-beyond : reach ≡ get_or directory 42 0 → get_or directory 59 0 ≤ t → CountsApplied directory tables reach t 0
  unfolding applied_in
  applied-beyond e h = record {
    counted = λ nums ends P end s table k.
        let here : reach ≡ length P.callables = e ∙ s.callables.count in
        cut-zero ∙ rw (
          applied_in,
          eq-eqb reach (length P.callables) here,
          k.beyond t (omega (arith, s.tables.count)),
        );
  }

  pub applied-elsewhere : (reach ≡ get_or directory 42 0 → ⊥) → CountsApplied directory tables reach t 0
  unfolding applied_in
  applied-elsewhere n = record {
    counted = λ nums ends P end s table k.
        cut-zero ∙ rw (applied_in, ne_eqb reach (length P.callables) (λ e. n (e ∙ sym s.callables.count)));
  }

pub ruleset applying = (table-slot, table-scaled, applied-table, applied-beyond, applied-elsewhere)

-- two branches
module _ (nums directory ends tables kept : List ℕ) (reach lower first second : ℕ) where
  pub first-asks : AsksBranches nums directory ends tables kept reach lower first second
      → AsksStmt nums directory ends tables kept reach lower first
  first-asks a = record {
    program = a.program;
    stmt = a.one;
    setting = a.setting;
    table = a.table;
    tabled = a.tabled;
    stands = a.one_stands;
    deep = a.deep;
  }

  pub second-asks : (kept₁ : List ℕ) (one : ℕ) → AsksBranches nums directory ends tables kept reach lower first second
      → CountsStmt nums directory ends tables kept kept₁ reach lower first one
      → AsksStmt nums directory ends tables kept₁ reach lower second
  second-asks kept₁ one a c = record {
    program = a.program;
    stmt = a.other;
    setting = resumed a.setting (c.counted a.program a.one a.setting a.table a.tabled a.one_stands);
    table = a.table;
    tabled = a.tabled;
    stands = a.other_stands;
    deep = a.deep;
  }

  module _ (kept₁ kept₂ : List ℕ) (one other : ℕ)
      (c : CountsStmt nums directory ends tables kept kept₁ reach lower first one)
      (d : CountsStmt nums directory ends tables kept₁ kept₂ reach lower second other) where
    pub larger-branch : (r : ℕ) → r ≡ max one other
        → CountsBranches nums directory ends tables kept kept₂ reach lower first second r
    larger-branch r e = record {
      low = omega (arith, e, c.low, d.low);
      counted = λ P a b setting table tabled w v.
          let p : Counted P (ceiling_stmt (callee_below P reach) (applied_in P reach table) a) one kept₁
          = c.counted P a setting table tabled w in
          let q : Counted P (ceiling_stmt (callee_below P reach) (applied_in P reach table) b) other kept₂
          = d.counted P b (resumed setting p) table tabled v in
          record { is = e ∙ cut-max one other _ _ p.is q.is; keeps = q.keeps };
    }

pub list-fall : (t reach depth : ℕ) → rank reach (4 * depth + 3) ≡ t → rank reach (4 * depth + 2) < t
list-fall t reach depth e = rank-lower t reach (4 * depth + 3) (4 * depth + 2) e (omega arith)

-- members, summed so far
pub record RestStmts (nums ends : List ℕ) (depth next left total : ℕ) (kept : List ℕ) (P : Program) (reach : ℕ)
    (table : ℕ → ℕ) (ss : Stmts) : Type 0 where
  pub rest : Stmts
  pub stand : StandsStmts nums ends depth next rest
  pub counts : left ≡ member_count rest
  pub sum : cut (ceiling_stmts (callee_below P reach) (applied_in P reach table) ss)
      ≡ cut (total + ceiling_stmts (callee_below P reach) (applied_in P reach table) rest)
  pub keeps : Kept P kept

pub record SummedStmts (nums directory ends tables kept : List ℕ) (reach depth at count : ℕ) (kept₁ : List ℕ)
    (total next done : ℕ) : Type 0 where
  pub low : total ≤ suc most_steps
  pub going : (P : Program) (ss : Stmts) → Setting nums directory ends kept reach P → (table : ℕ → ℕ)
      → TablesKept P reach tables table
      → StandsStmts nums ends depth at ss → count ≡ member_count ss
      → RestStmts nums ends depth next (count - done) total kept₁ P reach table ss

pub stmts-begin : (nums directory ends tables kept : List ℕ) (reach depth at count : ℕ)
    → SummedStmts nums directory ends tables kept reach depth at count kept 0 at 0
stmts-begin nums directory ends tables kept reach depth at count = record {
  low = omega arith;
  going = λ P ss s table tabled w e. record { rest = ss; stand = w; counts = omega (arith, e); sum = cut-begin _; keeps = s.keeps };
}

module _ (nums directory ends tables kept : List ℕ) (reach depth at count : ℕ) (kept₁ : List ℕ) (total next done : ℕ)
    (g : SummedStmts nums directory ends tables kept reach depth at count kept₁ total next done) where
  module _ (m : done < count) where
    more_left : count - done ≡ 0 → ⊥
    more_left e = omega (arith, e)

    module _ (a : AsksStmts nums directory ends tables kept reach depth at count) where
      rest_of : RestStmts nums ends depth next (count - done) total kept₁ a.program reach a.table a.stmts
      rest_of = g.going a.program a.stmts a.setting a.table a.tabled a.stand a.counts

      first_of : MemberView nums ends depth next (count - done) rest_of.rest
      first_of = member-view (count - done) rest_of.rest rest_of.stand rest_of.counts more_left

      pub stmts-asks : AsksStmt nums directory ends tables kept₁ reach depth next
      stmts-asks = record {
        program = a.program;
        stmt = first_of.first;
        setting = record {
          end = a.setting.end;
          stands = a.setting.stands;
          reaches = a.setting.reaches;
          keeps = rest_of.keeps;
        };
        table = a.table;
        tabled = a.tabled;
        stands = first_of.first_stands;
        deep = a.deep;
      }

      pub stmts-inside : next < length ends
      stmts-inside = omega (arith, (stmt-begins first_of.first_stands).inside, a.setting.stands.room)

    pub stmts-again : (kept₂ : List ℕ) (one total₁ next₁ : ℕ)
        → CountsStmt nums directory ends tables kept₁ kept₂ reach depth next one
        → total₁ ≡ cut (total + one) → next₁ ≡ get_or ends next 0
        → SummedStmts nums directory ends tables kept reach depth at count kept₂ total₁ next₁ (done + 1)
    unfolding ceiling_stmt
    stmts-again kept₂ one total₁ next₁ c e n = record {
      low = cut_low total₁ (total + one) e;
      going = λ P ss s table tabled w k.
          let r : RestStmts nums ends depth next (count - done) total kept₁ P reach table ss = g.going P ss s table tabled w k in
          let v : MemberView nums ends depth next (count - done) r.rest = member-view (count - done) r.rest r.stand
          r.counts more_left in
          let q : Counted P (ceiling_stmt (callee_below P reach) (applied_in P reach table) v.first) one kept₂
          = c.counted P v.first
          (record { end = s.end; stands = s.stands; reaches = s.reaches; keeps = r.keeps }) table tabled
          v.first_stands in
          record {
            rest = v.others;
            stand = rw n v.others_stand;
            counts = omega (arith, v.fewer);
            sum = cut-more total one total₁ _ _ _ q.is e (rw v.same at r.sum);
            keeps = q.keeps;
          };
    }

  pub stmts-end : count ≤ done → CountsStmts nums directory ends tables kept kept₁ reach depth at count total
  unfolding ceiling_stmt
  stmts-end m = record {
    low = g.low;
    counted = λ P ss s table tabled w k.
        let r : RestStmts nums ends depth next (count - done) total kept₁ P reach table ss = g.going P ss s table tabled w k in
        let none : r.rest ≡ no_stmts = no-members r.rest (omega (arith, r.counts)) in
        record { is = cut-done total _ g.low (rw none at r.sum); keeps = r.keeps };
  }

pub ruleset counting_stmts = (
  stmt-held,
  stmt-operands,
  stmt-operands-fall,
  stmt-runs,
  stmt-runs-fall,
  stmt-counted,
  run-branches-asks,
  run-branches-fall,
  run-branches,
  run-members-asks,
  run-members-fall,
  run-members,
  run-call-asks,
  run-call-fall,
  run-body,
  run-applied-asks,
  run-table,
  run-nothing,
  first-asks,
  second-asks,
  larger-branch,
  list-fall,
  stmts-begin,
  stmts-asks,
  stmts-inside,
  stmts-again,
  stmts-end,
)
