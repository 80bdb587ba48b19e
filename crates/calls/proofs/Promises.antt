-- What the calls promise, for all inputs: two outcomes that a promise allows are equal; an answer fills its five slots,
-- and nothing of what the face answers is lost in them.
use Rattle.std.specs.Prelude.{Result, Ok, Err}
use mathlib.Core.List.{List, [], ◌∷◌, ◌++◌}
use mathlib.Core.Path.{◌≡◌, refl, sym, ap, ◌∙◌}
use Prim.Native.Nat.{ℕ, zero, suc}
use native.Mathlib.Omega.{arith}
use lib.ListN.{length, take, replicate, length-take, length-append}
use Rattle.rules.specs.declared.Refusal.{Refusal}
use Rattle.rules.specs.declared.Acceptance.{Acceptance}
use Rattle.rules.specs.declared.Finished.{Finished}
use Rattle.rules.specs.declared.Signal.{Signal}
use Rattle.rules.specs.declared.Signal.TheVariants.{Done, Exit, Reject}
use Rattle.rules.specs.Answers.{of_refusal, of_read, of_write, of_judge, of_signal, of_run, judge_says}
use Rattle.rules.proofs.Same.{read_same, write_same, judge-same, run-same}
use Rattle.calls.specs.Promises.{in_five, TellsRead, TellsWrite, TellsRun}

pub read-determined : (bytes slots a b x y : List ℕ) → TellsRead bytes slots a x → TellsRead bytes slots b y →
    (a ≡ b) × (x ≡ y)
read-determined bytes slots a b x y p q = (p.says ∙ sym q.says, p.leaves ∙ sym q.leaves)

pub write-determined : (ns bytes a b x y : List ℕ) → TellsWrite ns bytes a x → TellsWrite ns bytes b y →
    (a ≡ b) × (x ≡ y)
write-determined ns bytes a b x y p q = (p.says ∙ sym q.says, p.leaves ∙ sym q.leaves)

pub judge-determined : (bytes a b : List ℕ) → a ≡ in_five (judge_says bytes) → b ≡ in_five (judge_says bytes) → a ≡ b
judge-determined bytes a b p q = p ∙ sym q

pub run-determined : (bytes results working a b x y u v : List ℕ) → TellsRun bytes results working a x u →
    TellsRun bytes results working b y v → (a ≡ b) × (x ≡ y) × (u ≡ v)
run-determined bytes results working a b x y u v p q =
    (p.says ∙ sym q.says, p.leaves_results ∙ sym q.leaves_results, p.leaves_working ∙ sym q.leaves_working)

pub five-filled : (told : List ℕ) → length (in_five told) ≡ 5
unfolding in_five
five-filled told = omega (arith, length-take 5 (told ++ replicate 5 0), length-append told (replicate 5 0))

-- the numbers that were told, out of the slots: three where the first is 0, and so many where it is not
unfoldable out_of : ℕ → List ℕ → List ℕ
out_of told [] = []
out_of told (zero ∷ ns) = 0 ∷ take 2 ns
out_of told (suc n ∷ ns) = take told (suc n ∷ ns)

read_out : (a : Result ℕ Refusal) → out_of 2 (in_five (of_read a)) ≡ of_read a
unfolding out_of in_five of_read of_refusal
read_out (Ok count) = refl
read_out (Err refusal) = refl

write-out : (a : Result ℕ Refusal) → out_of 2 (in_five (of_write a)) ≡ of_write a
unfolding out_of in_five of_write of_refusal
write-out (Ok length) = refl
write-out (Err refusal) = refl

judge-out : (a : Result Acceptance Refusal) → out_of 3 (in_five (of_judge a)) ≡ of_judge a
unfolding out_of in_five of_judge of_refusal
judge-out (Ok acceptance) = refl
judge-out (Err refusal) = refl

-- a run's: five where the first is 4, a reject
unfoldable run_out : List ℕ → List ℕ
run_out [] = []
run_out (zero ∷ ns) = 0 ∷ take 2 ns
run_out (suc zero ∷ ns) = 1 ∷ take 3 ns
run_out (suc (suc zero) ∷ ns) = 2 ∷ take 3 ns
run_out (suc (suc (suc n)) ∷ ns) = suc (suc (suc n)) ∷ ns

signal-out : (s : Signal) (steps ceiling length : ℕ) →
    run_out (in_five (of_signal s ++ steps ∷ ceiling ∷ length ∷ [])) ≡ of_signal s ++ steps ∷ ceiling ∷ length ∷ []
unfolding run_out in_five of_signal
signal-out Done steps ceiling length = refl
signal-out Exit steps ceiling length = refl
signal-out (Reject error) steps ceiling length = refl

run-out : (a : Result Finished Refusal) → run_out (in_five (of_run a)) ≡ of_run a
unfolding run_out in_five of_run of_refusal
run-out (Ok f) = signal-out f.signal f.steps f.ceiling f.length
run-out (Err refusal) = refl

pub read_kept : (a b : Result ℕ Refusal) → in_five (of_read a) ≡ in_five (of_read b) → a ≡ b
read_kept a b e = read_same a b (sym (read_out a) ∙ ap (out_of 2) e ∙ read_out b)

pub write_kept : (a b : Result ℕ Refusal) → in_five (of_write a) ≡ in_five (of_write b) → a ≡ b
write_kept a b e = write_same a b (sym (write-out a) ∙ ap (out_of 2) e ∙ write-out b)

pub judge-kept : (a b : Result Acceptance Refusal) → in_five (of_judge a) ≡ in_five (of_judge b) → a ≡ b
judge-kept a b e = judge-same a b (sym (judge-out a) ∙ ap (out_of 3) e ∙ judge-out b)

pub run-kept : (a b : Result Finished Refusal) → in_five (of_run a) ≡ in_five (of_run b) → a ≡ b
run-kept a b e = run-same a b (sym (run-out a) ∙ ap run_out e ∙ run-out b)
