-- Storing the bytes of numbers: what is stored and what is left to store give the bytes' later contents.
use mathlib.Core.List.{List, [], ◌∷◌, ◌++◌}
use mathlib.Core.Path.{◌≡◌, refl, sym, ap, ◌∙◌}
use Prim.Native.Nat.{ℕ, suc, ◌+◌, ◌/◌, ◌%◌, ◌^◌, ◌<◌, ◌≤◌}
use native.Mathlib.Nat.{add-zero}
use native.Mathlib.Numerals.{add-one}
use native.Mathlib.Omega.{arith}
use lib.ListN.{length, drop, get_or, set, length-set}
use lib.Seq.{sets, length-sets}
use Rattle.rules.specs.Numbers.{bytes_of_number, bytes_of}
use Rattle.rules.specs.Answers.{write_leaves}
use Rattle.rules.proofs.Codec.{written_last, written-more}
use Rattle.numbers.specs.Parts.{Stored}
use Rattle.numbers.proofs.Measuring.{written_next, length-next, written-end}
use Rattle.numbers.proofs.Room.{filled-stored}

-- of a number the groups from `rest` on are still to be stored, from `at` on
pub record Putting (number place : ℕ) (bytes₀ bytes : List ℕ) (at rest : ℕ) : Type 0 where
  pub fits : rest < 2 ^ 64
  pub room : at + length (bytes_of_number rest) ≤ length bytes
  pub same : length bytes ≡ length bytes₀
  pub behind : at + length (bytes_of_number rest) ≡ place + length (bytes_of_number number)
  pub leads : sets bytes at (bytes_of_number rest) ≡ sets bytes₀ place (bytes_of_number number)

pub putting-start : (number place : ℕ) (bytes : List ℕ) → number < 2 ^ 64 →
    place + length (bytes_of_number number) ≤ length bytes → Putting number place bytes bytes place number
putting-start number place bytes h room = record { fits = h; room = room; same = refl; behind = refl; leads = refl }

module _ (number place : ℕ) (bytes₀ bytes : List ℕ) (at rest : ℕ) (p : Putting number place bytes₀ bytes at rest) where
  module _ (h : 128 ≤ rest) where
    groups : bytes_of_number rest ≡ (128 + rest % 128) ∷ bytes_of_number (rest / 128)
    groups = written-more rest h p.fits

    pub putting-room : at < length bytes
    putting-room = omega (arith, p.room, ap length groups)

    pub putting-more : Putting number place bytes₀ (set bytes at (128 + rest % 128)) (at + 1) (rest / 128)
    putting-more =
        record {
          fits = omega arith;
          room = rw length-set (omega (arith, p.room, ap length groups));
          same = length-set bytes at (128 + rest % 128) ∙ p.same;
          behind = omega (arith, p.behind, ap length groups);
          leads = rw (add-one at) (rw groups at p.leads);
        }

  module _ (h : rest < 128) where
    pub putting-last : at < length bytes
    putting-last = omega (arith, p.room, ap length (written_last rest h))

    pub putting-done : Stored number place bytes₀ (at + 1) (set bytes at rest)
    putting-done =
        record {
          behind = omega (arith, p.behind, ap length (written_last rest h));
          leaves = rw (written_last rest h) at p.leads;
        }

pub ruleset puttings = (putting-start, putting-room, putting-more, putting-last, putting-done)

-- of a list the numbers from `index` on are still to be stored, from `at` on
pub record Storing (ns bytes₀ bytes : List ℕ) (at index : ℕ) : Type 0 where
  pub inside : index ≤ length ns
  pub room : at + length (bytes_of (drop index ns)) ≤ length bytes
  pub same : length bytes ≡ length bytes₀
  pub leads : sets bytes at (bytes_of (drop index ns)) ≡ write_leaves ns bytes₀

pub storing-start : (ns bytes : List ℕ) → length (bytes_of ns) ≤ length bytes → Storing ns bytes bytes 0 0
unfolding write_leaves
storing-start ns bytes h =
    record { inside = omega arith; room = omega arith; same = refl; leads = filled-stored (bytes_of ns) bytes h }

pub sets-append : (us vs l : List ℕ) (i : ℕ) → sets l i (us ++ vs) ≡ sets (sets l i us) (i + length us) vs
sets-append [] vs l i = rw (add-zero i)
sets-append (u ∷ us) vs l i =
    let e : suc i + length us ≡ i + suc (length us) = omega arith in
    sets-append us vs (set l i u) (suc i) ∙ rw e

module _ (ns bytes₀ bytes : List ℕ) (at index : ℕ) (s : Storing ns bytes₀ bytes at index) where
  module _ (h : index < length ns) where
    abbrev next-bytes : List ℕ
    next-bytes = bytes_of_number (get_or ns index 0)

    abbrev later-bytes : List ℕ
    later-bytes = bytes_of (drop (index + 1) ns)

    pub storing-room : at + length (bytes_of_number (get_or ns index 0)) ≤ length bytes
    storing-room = omega (arith, s.room, length-next ns index h)

    pub storing-more : (next : ℕ) (left : List ℕ) → Stored (get_or ns index 0) at bytes next left →
        Storing ns bytes₀ left next (index + 1)
    storing-more next left d =
        let kept : length left ≡ length bytes = ap length d.leaves ∙ length-sets bytes at next-bytes in
        record {
          inside = omega arith;
          room = omega (arith, s.room, d.behind, length-next ns index h);
          same = kept ∙ s.same;
          leads = rw (d.leaves, d.behind)
              (sym (sets-append next-bytes later-bytes bytes at) ∙ rw (written_next ns index h) at s.leads);
        }

  pub storing-done : length ns ≤ index → bytes ≡ write_leaves ns bytes₀
  storing-done h = rw (written-end ns index h) at s.leads

pub ruleset storings = (storing-start, storing-room, storing-more, storing-done)
