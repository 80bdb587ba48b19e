-- The passes one after the other are the rules' `judging`.
use mathlib.Core.Bool.{Bool, true, false}
use mathlib.Core.Path.{◌≡◌, refl, ◌∙◌}
use mathlib.Core.List.{List}
use Prim.Native.Nat.{ℕ}
use lib.Dec.{leb}
use Rattle.rules.specs.Syntax.{Program}
use Rattle.rules.specs.Reading.{Got, got, bad, Reader, and_then, ◌>>=◌, pure, read_program}
use Rattle.rules.specs.Form.{Res, ok, fault, need, judge_program}
use Rattle.rules.specs.Ceiling.{most_steps, ceiling_of}
use Rattle.rules.specs.Lists.{Entry, Cell, read_entries, read_store, read_packet, nothing_left}
use Rattle.rules.specs.Answers.{Bench, checked, judging_program, judging}
use Rattle.lists.specs.Listing.{Lists, listing, listed_of}
use Rattle.lists.proofs.Laid.{listing-made}
use Rattle.judge.specs.Verdicts.{of_verdict, told_by, judging_says, after_lists, after_ceiling, after_form, after_shape}

abbrev pub bench : Program → List Entry → List Cell → List ℕ → Bench
bench P entries store packet = record { program = P; entries = entries; store = store; packet = packet }

-- what `judging` reads behind a program that is fine
unfoldable pub behind : Program → Reader Bench
behind P = read_entries true P >>= λ entries. read_store P >>= λ store. read_packet P >>= λ packet.
    nothing_left >>= λ ended. pure (bench P entries store packet)

lists-say : (P : Program) (left : List ℕ) (end : ℕ)
    → of_verdict (after_lists (ceiling_of P) (listed_of end (listing P left end))) ≡ told_by (behind P left end)
unfolding of_verdict after_lists listed_of told_by behind ◌>>=◌ and_then pure
lists-say P left end = go (listing P left end) ∙ rw (← listing-made P (bench P) left end)
  where
    go : (x : Got Lists) → of_verdict (after_lists (ceiling_of P) (listed_of end x))
        ≡ told_by (and_then x (λ lists. pure (bench P lists.entries lists.cells lists.packet)))
    go (got lists rest next) = refl
    go (bad number index) = refl

ceiling-says : (P : Program) (left : List ℕ) (end : ℕ) (b : Bool)
    → of_verdict (after_ceiling P left end b) ≡ told_by ((checked (need 9 0 b) >>= λ bounded. behind P) left end)
unfolding after_ceiling of_verdict told_by checked need ◌>>=◌ and_then
ceiling-says P left end true = lists-say P left end
ceiling-says P left end false = refl

form-says : (P : Program) (left : List ℕ) (end : ℕ) (r : Res (Unit {0})) → of_verdict (after_form P left end r)
    ≡ told_by ((checked r >>= λ formed. checked (need 9 0 (leb
    (ceiling_of P) most_steps)) >>= λ bounded. behind P) left end)
unfolding after_form of_verdict told_by checked ◌>>=◌ and_then
form-says P left end (ok fine) = ceiling-says P left end (leb (ceiling_of P) most_steps)
form-says P left end (fault number index) = refl

pub passes-say : (nums : List ℕ) → of_verdict (after_shape (read_program nums 0)) ≡ judging_says nums
unfolding judging_says judging judging_program behind ◌>>=◌ and_then after_shape of_verdict told_by
passes-say nums = go (read_program nums 0)
  where
    go : (x : Got Program) → of_verdict (after_shape x) ≡ told_by (and_then x (λ P.
        checked (judge_program P) >>= λ formed. checked (need 9 0 (leb
        (ceiling_of P) most_steps)) >>= λ bounded. behind P))
    go (got P left end) = form-says P left end (judge_program P)
    go (bad number index) = refl
