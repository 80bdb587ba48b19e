-- Lists of items.
use mathlib.Core.Path.{◌≡◌, refl, ◌∙◌}
use mathlib.Core.List.{List}
use Prim.Native.Nat.{ℕ, zero, suc, ◌+◌, ◌-◌, ◌<◌, ◌≤◌}
use native.Mathlib.Numerals.{sub-one}
use native.Mathlib.Omega.{arith}
use native.Mathlib.Nat.{sub-zero}
use Rattle.std.specs.Prelude.{Result, Ok, Err}
use Rattle.rules.specs.Answers.{number_of}
use Rattle.rules.specs.declared.Fault as rules
use Rattle.shape.specs.Scans.{told, Scan, Past, Fault}
use Rattle.shape.specs.Leads.{on_scan, value_of, on_value, Value, Of, Unread}
use Rattle.shape.specs.Parts.{repeat_scan, list_scan, Tells, Repeats, Lists}
use Rattle.shape.proofs.Laws.{seq-past, seq-fault}

-- lists of items
module _ (one : ℕ → Scan) (count at : ℕ) where
  pub items-none : count ≡ 0 → Past at ≡ repeat_scan one count at
  unfolding repeat_scan
  items-none e = rw e

  items_more : (count ≡ 0 → ⊥) → repeat_scan one count at ≡ on_scan (one at) (repeat_scan one (count - 1))
  unfolding repeat_scan
  items_more x = go count x
    where
      go : (k : ℕ) → (k ≡ 0 → ⊥) → repeat_scan one k at ≡ on_scan (one at) (repeat_scan one (k - 1))
      go zero x = absurd (x refl)
      go (suc k) x = rw (sub-one (suc k))

  pub items-past : (n : ℕ) (a r : Scan) → (count ≡ 0 → ⊥) → a ≡ one at → a ≡ Past n → r ≡ repeat_scan one (count - 1) n
      → r ≡ repeat_scan one count at
  items-past n a r x q p h = seq-past _ _ _ (items_more x) a q n r p h

  pub items-fault : (f i : ℕ) (a : Scan) → (count ≡ 0 → ⊥) → a ≡ one at → a ≡ Fault f i
      → Fault f i ≡ repeat_scan one count at
  items-fault f i a x q p = seq-fault _ _ _ (items_more x) a q f i p

-- so many items of which some are done: what the rest scans to, all scan to
pub record Remaining (post : ℕ → Result ℕ rules.Fault → Type 0) (count at done next : ℕ) : Type 0 where
  pub rest : (one : ℕ → Scan) → Tells post one → repeat_scan one (count - done) next ≡ repeat_scan one count at

module _ (post : ℕ → Result ℕ rules.Fault → Type 0) (count at : ℕ) where
  pub remaining-first : Remaining post count at 0 at
  remaining-first = record { rest = λ one t. rw sub-zero refl }

  module _ (done next : ℕ) (w : Remaining post count at done next) where
    pub remaining-none : count ≤ done → Repeats post count at (Past next)
    remaining-none h = record
        { scan = λ one t. items-none one (count - done) next (omega arith) ∙ w.rest one t }

    pub remaining-past : (n : ℕ) → done < count → post next (Ok n) → Remaining post count at (done + 1) n
    remaining-past n h p = record {
      rest = λ one t.
          let e : count - done - 1 ≡ count - (done + 1) = omega arith in
          items-past one (count - done) next n (Past n) (repeat_scan one (count - (done + 1)) n) (λ z. omega arith)
          (t next (Ok n) p) refl (rw e refl)
          ∙ w.rest one t;
    }

    pub remaining-fault : (f : rules.Fault) → done < count → post next (Err f) → Repeats post count at (told (Err f))
    remaining-fault f h p = record {
      scan = λ one t.
          items-fault one (count - done) next (number_of f.reason) f.index (told (Err f)) (λ z. omega arith)
          (t next (Err f) p) refl
          ∙ w.rest one t;
    }

module _ (one : ℕ → Scan) (least most : ℕ) (nums : List ℕ) (at : ℕ) (v : Value)
    (q : v ≡ value_of least most nums at) where
  pub list_of : (n next : ℕ) (r : Scan) → v ≡ Of n next → r ≡ repeat_scan one n next
      → r ≡ list_scan one least most nums at
  unfolding list_scan on_value
  list_of n next r p h = rw (← q, p) h

  pub list-fault : (f i : ℕ) → v ≡ Unread f i → Fault f i ≡ list_scan one least most nums at
  unfolding list_scan on_value
  list-fault f i p = rw (← q, p)

-- and of items
module _ (post : ℕ → Result ℕ rules.Fault → Type 0) (least most : ℕ) (nums : List ℕ) (at : ℕ) where
  pub items-listed : (n next : ℕ) (r : Scan) → Of n next ≡ value_of least most nums at → Repeats post n next r
      → Lists post least most nums at r
  items-listed n next r q w = record
      { scan = λ one t. list_of one least most nums at (Of n next) q n next r refl (w.scan one t) }

  pub items-unlisted : (f i : ℕ) → Unread f i ≡ value_of least most nums at → Lists post least most nums at (Fault f i)
  items-unlisted f i q = record { scan = λ one t. list-fault one least most nums at (Unread f i) q f i refl }

  pub lists-scan : (one : ℕ → Scan) (r : Scan) → Lists post least most nums at r → Tells post one
      → r ≡ list_scan one least most nums at
  lists-scan one r w t = w.scan one t

pub ruleset lists = (remaining-first, remaining-none, remaining-past, remaining-fault, items-listed, items-unlisted)
