-- Parts of a program one after the other: what is left of them is judged as all are.
use mathlib.Core.Path.{◌≡◌, refl, sym, ◌∙◌}
use mathlib.Core.List.{List, [], ◌∷◌}
use Prim.Native.Nat.{ℕ, suc, ◌+◌, ◌≤◌, ◌<◌}
use native.Mathlib.Numerals.{add-one}
use lib.ListN.{length, get_or, drop, drop_of_length-le}
use Rattle.std.specs.Prelude.{Ok, Err}
use Rattle.rules.specs.declared.Fault.{Fault}
use Rattle.rules.specs.Syntax.{Program}
use Rattle.rules.specs.Form.{Res, ok, ◌>>=◌}
use Rattle.program.specs.Stands.{StandsProgram, SomeProgram}
use Rattle.program.specs.Looks.{Has}
use Rattle.program.proofs.Found.{At, member-at}
use Rattle.program.proofs.Members.{drop-member}
use Rattle.form.specs.Claims.{Formal, told_form}
use Rattle.form.specs.Parts.{JudgesPart, JudgesParts}
use Rattle.form.proofs.Steps.{well-is, ill-is}

-- how parts are judged, and where the directory has their count
pub record Walk {A : Type 0} (list : Program → List A) (one : Program → ℕ → A → Res (Unit {0}))
    (all : Program → ℕ → List A → Res (Unit {0})) (slot : ℕ) : Type 0 where
  pub none_left : (P : Program) (i : ℕ) → all P i [] ≡ ok tt
  pub next : (P : Program) (i : ℕ) (x : A) (xs : List A) → all P i (x ∷ xs) ≡ (one P i x >>= λ _. all P (suc i) xs)
  pub count : (nums directory ends : List ℕ) (P : Program) (end : ℕ) → StandsProgram nums directory ends P end
      → get_or directory slot 0 ≡ length (list P)

-- those from a number on are judged and fine, up to another
pub record Walked {A : Type 0} (list : Program → List A) (all : Program → ℕ → List A → Res (Unit {0}))
    (nums directory ends : List ℕ) (from i : ℕ) : Type 0 where
  pub left : (P : Program) (end : ℕ) → StandsProgram nums directory ends P end
      → all P from (drop from (list P)) ≡ all P i (drop i (list P))

module _ {A : Type 0} {list : Program → List A} {one : Program → ℕ → A → Res (Unit {0})}
    {all : Program → ℕ → List A → Res (Unit {0})} {slot : ℕ} (w : Walk list one all slot)
    (nums directory ends : List ℕ) where
  pub walk-first : (from : ℕ) → Walked list all nums directory ends from from
  walk-first from = record { left = λ P end s. refl }

  module _ (i : ℕ) where
    pub walk-asks : SomeProgram nums directory ends → i < get_or directory slot 0 → Has list nums directory ends i
    walk-asks h l = record {
      program = h.program;
      end = h.end;
      stands = h.stands;
      inside = rw (w.count nums directory ends h.program h.end h.stands) at l;
    }

    module _ (l : i < get_or directory slot 0) where
      pub here : (P : Program) (end : ℕ) → StandsProgram nums directory ends P end → At (list P) i
      here P end s = member-at (list P) i (rw (w.count nums directory ends P end s) at l)

      opened : (P : Program) (end : ℕ) (s : StandsProgram nums directory ends P end)
          → all P i (drop i (list P)) ≡ (one P i (here P end s).member >>= λ _. all P (suc i) (drop (suc i) (list P)))
      opened P end s = rw (drop-member (list P) i (here P end s).member (here P end s).is) (w.next P i _ _)

  module _ (from i : ℕ) (d : Walked list all nums directory ends from i) where
    pub walk-done : get_or directory slot 0 ≤ i → JudgesParts list all nums directory ends from (Ok tt)
    unfolding told_form
    walk-done l = record {
      judged = λ P end s.
          let past : length (list P) ≤ i = rw (w.count nums directory ends P end s) at l in
          sym (d.left P end s ∙ rw (drop_of_length-le (list P) past) (w.none_left P i));
    }

    module _ (l : i < get_or directory slot 0) where
      pub walk-next : JudgesPart list one nums directory ends i (Ok tt)
          → Walked list all nums directory ends from (i + 1)
      unfolding ◌>>=◌
      walk-next j = record {
        left = λ P end s.
            let x : At (list P) i = here i l P end s in
            let f : one P i x.member ≡ ok tt = well-is _ (j.judged P end x.member s x.is) in
            rw (add-one i) (d.left P end s ∙ rw f at (opened i l P end s));
      }

      pub walk-stop : (wrong : Fault) → JudgesPart list one nums directory ends i (Err wrong)
          → JudgesParts list all nums directory ends from (Err wrong)
      unfolding ◌>>=◌ told_form
      walk-stop wrong j = record {
        judged = λ P end s.
            let x : At (list P) i = here i l P end s in
            rw (d.left P end s, opened i l P end s, ill-is _ wrong (j.judged P end x.member s x.is));
      }

  -- where a part is fine, those from it on are judged as those behind it
  pub parts-next : (i : ℕ) → i < get_or directory slot 0 → JudgesPart list one nums directory ends i (Ok tt)
      → (r : Formal) → JudgesParts list all nums directory ends (i + 1) r
      → JudgesParts list all nums directory ends i r
  parts-next i l j r m =
      let d : Walked list all nums directory ends i (i + 1) = walk-next i i (walk-first i) l j in
      record { judged = λ P end s. m.judged P end s ∙ sym (d.left P end s) }

pub ruleset walking = (walk-first, walk-asks, walk-done, walk-next, walk-stop)
