-- Globals: what a global's number says of its header type.
use mathlib.Core.Bool.{Bool, true, false}
use mathlib.Core.Path.{◌≡◌, refl, ◌∙◌}
use mathlib.Core.List.{List}
use Prim.Native.Nat.{ℕ, ◌+◌, ◌≤◌, ◌<◌}
use native.Mathlib.Omega.{arith}
use lib.ListN.{get_or}
use lib.Dec.{ltb}
use borrow.Author.Tests.{lt-ltb, ltb-true, ltb-false}
use Rattle.rules.specs.Syntax.{GlobalTy, variable, header, Program}
use Rattle.rules.specs.Form.{ok, ◌>>=◌, named, need, and_look, shape_in, judge_globals}
use Rattle.rules.proofs.Predicates.{no_member}
use Rattle.program.specs.Codes.{header_number}
use Rattle.program.specs.Stands.{StandsProgram}
use Rattle.program.specs.Looks.{Finds, globals_of, GlobalNumber, FoundGlobal}
use Rattle.program.proofs.Found.{member-at, global-slot}
use Rattle.form.specs.Claims.{Formal}
use Rattle.form.specs.Parts.{Says, JudgesPart, global_is, globals_are}
use Rattle.form.proofs.Steps.{forgotten}
use Rattle.form.proofs.Walking.{Walk}

module _ (nums directory ends : List ℕ) (g : ℕ) where
  -- a variable's number is below all header types', and a header type is there where its number is below their count
  shape_is : (P : Program) (end ty at : ℕ) (x : GlobalTy) → StandsProgram nums directory ends P end → GlobalNumber ty x
      → need 6 at (ltb ty (128 + get_or directory 0 0)) ≡ (named at (shape_in P x) >>= λ _. ok tt)
  unfolding GlobalNumber header_number shape_in named need ◌>>=◌ and_look
  shape_is P end ty at (variable t) s k = rw (lt-ltb ty (128 + get_or directory 0 0) (omega (arith, k.0)))
  shape_is P end ty at (header h) s k = go (ltb ty (128 + get_or directory 0 0)) refl
    where
      go : (b : Bool) → ltb ty (128 + get_or directory 0 0) ≡ b
          → need 6 at b ≡ (named at (shape_in P (header h)) >>= λ _. ok tt)
      go true q =
          let l : ty < 128 + get_or directory 0 0 = ltb-true ty (128 + get_or directory 0 0) q in
          rw (member-at P.headers h (omega (arith, l, k.0, s.headers.count))).is
      go false q =
          let l : 128 + get_or directory 0 0 ≤ ty = ltb-false ty (128 + get_or directory 0 0) q in
          rw (no_member P.headers h (omega (arith, l, k.0, s.headers.count)))

  pub global-judged : (ty : ℕ) (r : Formal) → Finds globals_of (FoundGlobal ty) nums directory ends g
      → Says r (need 6 (get_or directory (10 + g) 0) (ltb ty (128 + get_or directory 0 0)))
      → JudgesPart globals_of global_is nums directory ends g r
  unfolding globals_of FoundGlobal global_is
  global-judged ty r f s = record {
    judged = λ P end x p e.
        s.judged ∙ rw (p.globals.member g x e).index
        (shape_is P end ty (get_or directory (10 + g) 0) x.ty p (f.finds P end x p e));
  }

pub ruleset globals = (global-slot, global-judged)

-- globals one after the other
pub globals-walk : Walk globals_of global_is globals_are 9
unfolding globals_of global_is globals_are judge_globals
globals-walk = record {
  none_left = λ P i. refl;
  next = λ P i x xs. forgotten (named x.at (shape_in P x.ty)) (judge_globals P xs);
  count = λ nums directory ends P end s. s.globals.count;
}
