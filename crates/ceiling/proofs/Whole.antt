-- The whole count: nothing is kept at first, then the tables, then the parser, then the apply body.
use mathlib.Core.Path.{◌≡◌, refl, sym, ◌∙◌}
use mathlib.Core.List.{List}
use Prim.Native.Nat.{ℕ, ◌+◌, ◌≤◌, ◌<◌}
use native.Mathlib.Omega.{arith}
use lib.ListN.{length, get_or, get_elem?, replicate, get_or-replicate}
use borrow.Author.Tests.{eq-eqb}
use Rattle.rules.specs.Syntax.{Program}
use Rattle.rules.specs.Ceiling.{most_steps, ceiling_stmt, no_table, ceiling_table, ceiling_parser, ceiling_with, ceiling_of}
use Rattle.rules.proofs.Predicates.{no_member}
use Rattle.program.specs.Stands.{StandsProgram, SomeProgram}
use Rattle.ceiling.specs.Cut.{cut}
use Rattle.ceiling.specs.Claims.{callee_below, applied_in, Kept, TablesKept, Setting, Counted, AsksStmt, CountsStmt, FilledTo, AsksTables, Filled, CountsTables, TellsCeiling}
use Rattle.ceiling.specs.StateClaims.{AsksParser, CountsParser}
use Rattle.ceiling.proofs.Sums.{cut-zero, cut-both}
use Rattle.ceiling.proofs.Counting.{resumed}

nothing-kept : (P : Program) → length P.callables < 17 → Kept P (replicate 16 0)
nothing-kept P few = record { slots = refl; slot = λ f l n. absurd (n (get_or-replicate 16 f 0 0 (omega arith))) }

nothing-filled : (P : Program) (reach : ℕ) → FilledTo P reach (replicate 8 0) 0
nothing-filled P reach = record { slots = refl; slot = λ u l i. absurd (omega arith) }

begins : (nums directory ends : List ℕ) (P : Program) (end : ℕ) → StandsProgram nums directory ends P end
    → Setting nums directory ends (replicate 16 0) (get_or directory 42 0) P
begins nums directory ends P end s = record {
  end = end;
  stands = s;
  reaches = omega (arith, s.callables.count);
  keeps = nothing-kept P (omega (arith, s.callables.few));
}

-- what an apply runs in the apply body
abbrev applied_at : Program → ℕ → ℕ → ℕ
applied_at P reach t = ceiling_table (callee_below P reach) (get_elem? P.tables t)

-- with the tables worked out
tabled : (nums directory ends kept filled : List ℕ) (P : Program) (end : ℕ) → StandsProgram nums directory ends P end
    → CountsTables nums directory ends (replicate 16 0) kept (replicate 8 0) filled (get_or directory 42 0) 0
    → Setting nums directory ends kept (get_or directory 42 0) P
    × TablesKept P (get_or directory 42 0) filled (applied_at P (get_or directory 42 0))
unfolding ceiling_table
tabled nums directory ends kept filled P end s c =
    let f : Filled P (get_or directory 42 0) filled kept
    = c.counted P (begins nums directory ends P end s) (nothing-filled P (get_or directory 42 0)) in (
      record { end = end; stands = s; reaches = omega (arith, s.callables.count); keeps = f.keeps },
      record { slot = λ e t l. f.fills.slot t l l; beyond = λ t l. rw (no_member P.tables t l) },
    )

-- no apply stands in a state
untabled : (P : Program) (reach : ℕ) → length P.tables ≤ 8 → TablesKept P reach (replicate 8 0) no_table
untabled P reach few = record {
  slot = λ e t l. get_or-replicate 8 t 0 0 (omega arith) ∙ cut-zero;
  beyond = λ t l. refl;
}

-- the parser's ceiling and the apply body's are the program's
whole : (P : Program) (n parser run r : ℕ) → n ≡ length P.callables
    → parser ≡ cut (ceiling_parser (callee_below P n) P)
    → run ≡ cut (ceiling_stmt (callee_below P n) (applied_in P n (applied_at P n)) P.body) → r ≡ cut (parser + run)
    → r ≡ cut (ceiling_of P)
unfolding ceiling_of ceiling_with applied_in
whole P n parser run r e p q s = go n e p q
  where
    go : (n : ℕ) → n ≡ length P.callables → parser ≡ cut (ceiling_parser (callee_below P n) P)
        → run ≡ cut (ceiling_stmt (callee_below P n) (applied_in P n (applied_at P n)) P.body) → r ≡ cut (ceiling_of P)
    go n e p q =
        let here : applied_in P n (applied_at P n) ≡ applied_at P n
        = rw (applied_in, eq-eqb n (length P.callables) e) in
        rw (← e) (cut-both parser run r _ _ p (rw here at q) s)

module _ (nums directory ends : List ℕ) where
  pub tables-first : SomeProgram nums directory ends
      → AsksTables nums directory ends (replicate 16 0) (replicate 8 0) (get_or directory 42 0) 0
  tables-first a = record {
    program = a.program;
    setting = begins nums directory ends a.program a.end a.stands;
    fills = nothing-filled a.program (get_or directory 42 0);
  }

  module _ (kept filled : List ℕ)
      (c : CountsTables nums directory ends (replicate 16 0) kept (replicate 8 0) filled (get_or directory 42 0) 0) where
    pub parser-then : SomeProgram nums directory ends
        → AsksParser nums directory ends (replicate 8 0) kept (get_or directory 42 0)
    parser-then a = record {
      program = a.program;
      setting = (tabled nums directory ends kept filled a.program a.end a.stands c).0;
      tabled = untabled a.program (get_or directory 42 0) a.stands.tables.few;
    }

    module _ (kept₁ : List ℕ) (parser : ℕ)
        (d : CountsParser nums directory ends (replicate 8 0) kept kept₁ (get_or directory 42 0) parser) where
      parsed : (P : Program) (end : ℕ) → StandsProgram nums directory ends P end
          → Counted P (ceiling_parser (callee_below P (get_or directory 42 0)) P) parser kept₁
      parsed P end s = d.counted P (tabled nums directory ends kept filled P end s c).0
          (untabled P (get_or directory 42 0) s.tables.few)

      pub body-then : SomeProgram nums directory ends
          → AsksStmt nums directory ends filled kept₁ (get_or directory 42 0) 32 (get_or directory 68 0)
      body-then a = record {
        program = a.program;
        stmt = a.program.body;
        setting = resumed (tabled nums directory ends kept filled a.program a.end a.stands c).0
            (parsed a.program a.end a.stands);
        table = applied_at a.program (get_or directory 42 0);
        tabled = (tabled nums directory ends kept filled a.program a.end a.stands c).1;
        stands = a.stands.body;
        deep = omega arith;
      }

      pub ceiling-told : (kept₂ : List ℕ) (run r : ℕ)
          → CountsStmt nums directory ends filled kept₁ kept₂ (get_or directory 42 0) 32 (get_or directory 68 0) run
          → r ≡ cut (parser + run) → TellsCeiling nums directory ends r
      ceiling-told kept₂ run r w e = record {
        told = λ P end s.
            let t = tabled nums directory ends kept filled P end s c in
            let q = w.counted P P.body (resumed t.0 (parsed P end s))
            (applied_at P (get_or directory 42 0)) t.1 s.body in
            whole P (get_or directory 42 0) parser run r s.callables.count (parsed P end s).is q.is e;
      }

pub ruleset counted-whole = (tables-first, parser-then, body-then, ceiling-told)

-- any two answers that the promise allows are equal
pub one-ceiling : (nums directory ends : List ℕ) (r s : ℕ) → SomeProgram nums directory ends
    → TellsCeiling nums directory ends r → TellsCeiling nums directory ends s → r ≡ s
one-ceiling nums directory ends r s a p q =
    p.told a.program a.end a.stands ∙ sym (q.told a.program a.end a.stands)

-- a ceiling that is told as at most so many steps is exact, and one above it is not allowed
pub told-exact : (nums directory ends : List ℕ) (r : ℕ) (P : Program) (end : ℕ)
    → StandsProgram nums directory ends P end
    → TellsCeiling nums directory ends r → r ≤ most_steps → r ≡ ceiling_of P
unfolding cut
told-exact nums directory ends r P end s p h = let e : r ≡ cut (ceiling_of P) = p.told P end s in omega (arith, e)

pub told_over : (nums directory ends : List ℕ) (r : ℕ) (P : Program) (end : ℕ) → StandsProgram nums directory ends P end
    → TellsCeiling nums directory ends r → most_steps < r → most_steps < ceiling_of P
unfolding cut
told_over nums directory ends r P end s p h = let e : r ≡ cut (ceiling_of P) = p.told P end s in omega (arith, e)
