-- Walking over the parts of a list: where each begins, and the ends that it lays.
use mathlib.Core.Path.{◌≡◌, refl, ◌∙◌}
use mathlib.Core.List.{List, ◌∷◌}
use Prim.Native.Nat.{ℕ, zero, suc, ◌+◌, ◌-◌, ◌≤◌, ◌<◌}
use native.Mathlib.Omega.{arith}
use native.Mathlib.Numerals.{add-one, sub-one}
use lib.ListN.{drop, set}
use Rattle.std.proofs.Common.{MutBor}
use Rattle.std.specs.Prelude.{Ok, Err}
use Rattle.rules.specs.Answers.{number_of}
use Rattle.rules.specs.declared.Fault as rules
use Rattle.rules.specs.Reading.{got, Reader}
use Rattle.shape.specs.Scans.{told, forget, scan_of, Scan, Past, Fault}
use Rattle.shape.specs.Leads.{value_of, Of, Unread}
use Rattle.shape.specs.Directory.{slot_count}
use Rattle.shape.specs.Walks.{starts_after, starts, Walked, WalkedList, laid_list, LaysPart, ends_after, parts_ends, list_ends, Called, Walks, WalksList}
use Rattle.shape.proofs.Laws.{AtMost, value-most}
use Rattle.shape.proofs.Listings.{items-none, items-past, items-fault, list_of, list-fault}

-- so many parts, and where they begin
module _ (one : ℕ → Scan) (count at slot : ℕ) (found : List ℕ) where
  pub walked_none : count ≡ 0 → Walked one count at slot found found (Past at)
  unfolding starts
  walked_none e = record { scan = items-none one count at e; laid = rw e }

  starts_more : (count ≡ 0 → ⊥) → starts one count at ≡ at ∷ starts_after (one at) (starts one (count - 1))
  unfolding starts
  starts_more x = go count x
    where
      go : (k : ℕ) → (k ≡ 0 → ⊥) → starts one k at ≡ at ∷ starts_after (one at) (starts one (k - 1))
      go zero x = absurd (x refl)
      go (suc k) x = rw (sub-one (suc k))

  pub walked-past : (n : ℕ) (a r : Scan) (filled : List ℕ) → (count ≡ 0 → ⊥) → a ≡ one at → a ≡ Past n
      → Walked one (count - 1) n (slot + 1) (set found slot at) filled r → Walked one count at slot found filled r
  unfolding starts_after
  walked-past n a r filled x q p w = record {
    scan = items-past one count at n a r x q p w.scan;
    laid = w.laid ∙ rw (starts_more x, ← q, p, add-one slot);
  }

  pub walked-fault : (f i : ℕ) (a : Scan) → (count ≡ 0 → ⊥) → a ≡ one at → a ≡ Fault f i
      → Walked one count at slot found (set found slot at) (Fault f i)
  unfolding starts_after
  walked-fault f i a x q p = record { scan = items-fault one count at f i a x q p; laid = rw (starts_more x, ← q, p) }

-- and what they lay into the ends
module _ (one : ℕ → Scan) (lay : ℕ → List ℕ → List ℕ) (count at : ℕ) (found : List ℕ) where
  pub ends-none : count ≡ 0 → parts_ends one lay count at found found
  unfolding parts_ends
  ends-none e = rw e refl

  pub ends-past : (n : ℕ) (mid filled : List ℕ) → (count ≡ 0 → ⊥) → LaysPart one lay at found mid (Past n)
      → parts_ends one lay (count - 1) n mid filled
      → parts_ends one lay count at found filled
  unfolding parts_ends ends_after
  ends-past n mid filled x w v = go count x v
    where
      go : (k : ℕ) → (k ≡ 0 → ⊥) → parts_ends one lay (k - 1) n mid filled → parts_ends one lay k at found filled
      go zero y u = absurd (y refl)
      go (suc k) y u = rw (← w.scan, ← w.laid) (rw (sub-one (suc k)) at u)

  pub ends-fault : (f i : ℕ) (mid filled : List ℕ) → (count ≡ 0 → ⊥) → LaysPart one lay at found mid (Fault f i)
      → parts_ends one lay count at found filled
  unfolding parts_ends ends_after
  ends-fault f i mid filled x w = go count x
    where
      go : (k : ℕ) → (k ≡ 0 → ⊥) → parts_ends one lay k at found filled
      go zero y = absurd (y refl)
      go (suc k) y = rw (← w.scan) tt

-- so many parts by what is called for each
module _ (post : Called) (count at slot : ℕ) (found : List ℕ) where
  pub walks-none : (ends : List ℕ) → count ≡ 0 → Walks post count at slot found found ends ends (Past at)
  walks-none ends e = record {
    walked = λ one lay t. walked_none one count at slot found e;
    laid = λ one lay t. ends-none one lay count at ends e;
  }

  module _ (ends ends' : MutBor (List ℕ)) (x : count ≡ 0 → ⊥) where
    pub walks-past : (n : ℕ) (filled last : List ℕ) (r : Scan) → post at ends (Ok n) ends'
        → Walks post (count - 1) n (slot + 1) (set found slot at) filled ends'.now last r
        → Walks post count at slot found filled ends.now last r
    walks-past n filled last r p w = record {
      walked = λ one lay t.
          walked-past one count at slot found n (Past n) r filled x (t.tells at ends ends' (Ok n) p).scan refl
          (w.walked one lay t);
      laid = λ one lay t.
          ends-past one lay count at ends.now n ends'.now last x (t.tells at ends ends' (Ok n) p) (w.laid one lay t);
    }

    pub walks-fault : (f : rules.Fault) → post at ends (Err f) ends'
        → Walks post count at slot found (set found slot at) ends.now ends'.now (told (Err f))
    walks-fault f p = record {
      walked = λ one lay t.
          walked-fault one count at slot found (number_of f.reason) f.index (told (Err f)) x
          (t.tells at ends ends' (Err f) p).scan refl;
      laid = λ one lay t.
          ends-fault one lay count at ends.now (number_of f.reason) f.index ends'.now ends'.now x
          (t.tells at ends ends' (Err f) p);
    }

-- so many parts, each with its slot, up to one's: what the rest walks, all walk
pub record Walking (post : Called) (count at slot : ℕ) (found ends : List ℕ) (entry next : ℕ) (now now_ends : List ℕ)
    : Type 0 where
  pub rest : (last last_ends : List ℕ) (r : Scan)
      → Walks post (slot + count - entry) next entry now last now_ends last_ends r
      → Walks post count at slot found last ends last_ends r

module _ {post : Called} {count at slot : ℕ} {found ends : List ℕ} {entry next : ℕ} {now : List ℕ} where
  pub walking-none : {now_ends : List ℕ} → Walking post count at slot found ends entry next now now_ends
      → slot + count ≤ entry → Walks post count at slot found now ends now_ends (Past next)
  walking-none {now_ends} w h =
      w.rest now now_ends (Past next) (walks-none post (slot + count - entry) next entry now now_ends (omega arith))

  module _ {lent lent' : MutBor (List ℕ)} (w : Walking post count at slot found ends entry next now lent.now)
      (h : entry < slot + count) where
    pub walking-past : {n : ℕ} → post next lent (Ok n) lent'
        → Walking post count at slot found ends (entry + 1) n (set now entry next) lent'.now
    walking-past {n} p = record {
      rest = λ last last_ends r u.
          let e : slot + count - (entry + 1) ≡ slot + count - entry - 1 = omega arith in
          w.rest last last_ends r
          (walks-past post (slot + count - entry) next entry now lent lent' (λ z. omega arith) n last last_ends r p
          (rw e at u));
    }

    pub walking-fault : {f : rules.Fault} → post next lent (Err f) lent'
        → Walks post count at slot found (set now entry next) ends lent'.now (told (Err f))
    walking-fault {f} p =
        w.rest (set now entry next) lent'.now (told (Err f))
        (walks-fault post (slot + count - entry) next entry now lent lent' (λ z. omega arith) f p)

-- a list of parts, of one scan and of what is called
module _ (one : ℕ → Scan) (least most : ℕ) (nums : List ℕ) (at slot : ℕ) (found : List ℕ) where
  pub walked-list : (n next : ℕ) (r : Scan) (filled : List ℕ) → Of n next ≡ value_of least most nums at
      → Walked one n next (slot + 1) (set found slot n) filled r
      → WalkedList one least most nums at slot found filled r
  unfolding laid_list
  walked-list n next r filled q w = record {
    scan = list_of one least most nums at (Of n next) q n next r refl w.scan;
    laid = w.laid ∙ rw (← q, add-one slot);
  }

module _ (post : Called) (least most : ℕ) (nums : List ℕ) (at slot : ℕ) (found ends : List ℕ) where
  pub list-walked : (n next : ℕ) (r : Scan) (filled ends' : List ℕ) → Of n next ≡ value_of least most nums at
      → Walks post n next (slot + 1) (set found slot n) filled ends ends' r
      → WalksList post least most nums at slot found filled ends ends' r
  unfolding list_ends
  list-walked n next r filled ends' q w = record {
    walked = λ one lay t. walked-list one least most nums at slot found n next r filled q (w.walked one lay t);
    laid = λ one lay t. rw (← q) (w.laid one lay t);
  }

  pub list-unwalked : (f i : ℕ) → Unread f i ≡ value_of least most nums at
      → WalksList post least most nums at slot found found ends ends (Fault f i)
  unfolding laid_list list_ends
  list-unwalked f i q = record {
    walked = λ one lay t. record {
      scan = list-fault one least most nums at (Unread f i) q f i refl;
      laid = rw (← q);
    };
    laid = λ one lay t. rw (← q) tt;
  }

pub list-room : (least most : ℕ) (nums : List ℕ) (at slot n next : ℕ) → Of n next ≡ value_of least most nums at
    → slot + most < slot_count
    → slot + 1 + n ≤ slot_count
unfolding AtMost
list-room least most nums at slot n next q h = omega (arith, rw (← q) at (value-most least most nums at))

pub ruleset list_walks = (list-walked, list-unwalked, list-room)

pub scan-got : {A : Type 0} (read : Reader A) (nums : List ℕ) (at n : ℕ) (a : A) (left : List ℕ)
    → read (drop at nums) at ≡ got a left n
    → scan_of read nums at ≡ Past n
unfolding scan_of forget
scan-got read nums at n a left e = rw e
