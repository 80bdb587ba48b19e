-- The digits of a number: the last one, and before it those of the number without it; at most twenty.
use mathlib.Core.List.{List, [], ◌∷◌, ◌++◌, append_assoc}
use mathlib.Core.Logic.{⊎_elim}
use mathlib.Core.Path.{◌≡◌, refl, sym, ap, ◌∙◌}
use Prim.Native.Nat.{ℕ, zero, suc, ◌+◌, ◌/◌, ◌%◌, ◌^◌, ◌<◌, ◌≤◌}
use native.Mathlib.Nat.{pow-suc}
use native.Mathlib.Omega.{arith}
use lib.ListN.{length, length-append}
use borrow.Author.Tests.{lt-ltb, le-ltb}
use Rattle.rules.specs.Lines.{digits_before, decimal}
use Rattle.rules.proofs.Codec.{below_or_not}

digits_last : (most n : ℕ) (others : List ℕ) → n < 10 → digits_before (suc most) n others ≡ (48 + n) ∷ others
unfolding digits_before
digits_last most n others h = rw (digits_before, lt-ltb n 10 h)

digits_more : (most n : ℕ) (others : List ℕ) → 10 ≤ n
    → digits_before (suc most) n others ≡ digits_before most (n / 10) ((48 + n % 10) ∷ others)
unfolding digits_before
digits_more most n others h = rw (digits_before, le-ltb n 10 h)

-- what stands behind them changes no digit
digits-behind : (most n : ℕ) (others : List ℕ) → digits_before most n others ≡ digits_before most n [] ++ others
unfolding digits_before
digits-behind zero n others = refl
digits-behind (suc most) n others =
    ⊎_elim (λ one. rw (digits_last most n others one, digits_last most n [] one))
    (λ some.
    digits_more most n others some
    ∙ digits-behind most (n / 10) ((48 + n % 10) ∷ others)
    ∙ sym (append_assoc (digits_before most (n / 10) []) ((48 + n % 10) ∷ []) others)
    ∙ ap (λ (digits : List ℕ). digits ++ others)
    (sym (digits_more most n [] some ∙ digits-behind most (n / 10) ((48 + n % 10) ∷ []))))
    (below_or_not n 10)

-- nor does more room
digits-room : (most n : ℕ) (others : List ℕ) → n < 10 ^ suc most
    → digits_before (suc (suc most)) n others ≡ digits_before (suc most) n others
digits-room zero n others h = digits_last 1 n others (omega arith) ∙ sym (digits_last 0 n others (omega arith))
digits-room (suc most) n others h =
    ⊎_elim (λ one. digits_last (suc (suc most)) n others one ∙ sym (digits_last (suc most) n others one))
    (λ some.
    digits_more (suc (suc most)) n others some
    ∙ digits-room most (n / 10) ((48 + n % 10) ∷ others) (omega (arith, pow-suc 10 (suc most)))
    ∙ sym (digits_more (suc most) n others some))
    (below_or_not n 10)

digits-few : (most n : ℕ) → length (digits_before most n []) ≤ most
unfolding digits_before
digits-few zero n = omega arith
digits-few (suc most) n =
    ⊎_elim (λ one. rw (digits_last most n [] one) (omega arith))
    (λ some.
    rw (digits_more most n [] some, digits-behind most (n / 10) ((48 + n % 10) ∷ []), length-append)
    (omega (arith, digits-few most (n / 10))))
    (below_or_not n 10)

pub decimal-last : (n : ℕ) → n < 10 → decimal n ≡ (48 + n) ∷ []
unfolding decimal
decimal-last n h = digits_last 19 n [] h

pub decimal-more : (n : ℕ) → 10 ≤ n → n < 2 ^ 64 → decimal n ≡ decimal (n / 10) ++ (48 + n % 10) ∷ []
unfolding decimal
decimal-more n h fits =
    digits_more 19 n [] h
    ∙ digits-behind 19 (n / 10) ((48 + n % 10) ∷ [])
    ∙ ap (λ (digits : List ℕ). digits ++ (48 + n % 10) ∷ []) (sym (digits-room 18 (n / 10) [] (omega arith)))

pub decimal-few : (n : ℕ) → length (decimal n) ≤ 20
unfolding decimal
decimal-few n = digits-few 20 n
