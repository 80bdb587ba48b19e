-- A text put into bytes part by part: what is put and what is left to put give the bytes' later contents.
use mathlib.Core.List.{List, [], ◌∷◌, ◌++◌}
use mathlib.Core.Path.{◌≡◌, refl, sym, ap, ◌∙◌}
use Prim.Native.Nat.{ℕ, ◌+◌, ◌≤◌}
use native.Mathlib.Omega.{arith}
use lib.ListN.{length, drop, set, length-append}
use lib.Seq.{sets, length-sets}
use Rattle.numbers.proofs.Room.{filled-there, filled-stored}
use Rattle.numbers.proofs.Storing.{sets-append}
use Rattle.lines.specs.Parts.{Stored}

-- one byte; one text behind another
pub stored-byte : (byte place : ℕ) (bytes : List ℕ) → Stored (byte ∷ []) place bytes (place + 1) (set bytes place byte)
stored-byte byte place bytes = record { behind = refl; leaves = refl }

module _ (text : List ℕ) (place : ℕ) (bytes : List ℕ) (next : ℕ) (left : List ℕ)
    (p : Stored text place bytes next left) where
  pub stored-kept : length left ≡ length bytes
  stored-kept = ap length p.leaves ∙ length-sets bytes place text

  pub stored-both : (text' : List ℕ) (next' : ℕ) (left' : List ℕ) → Stored text' next left next' left' →
      Stored (text ++ text') place bytes next' left'
  stored-both text' next' left' q =
      record {
        behind = omega (arith, p.behind, q.behind, length-append text text');
        leaves = q.leaves ∙ rw (p.leaves, p.behind) (sym (sets-append text text' bytes place));
      }

-- the rest of a text is still to be put, from `at` on
pub record Storing (text : List ℕ) (place : ℕ) (bytes₀ rest : List ℕ) (at : ℕ) (bytes : List ℕ) : Type 0 where
  pub behind : at + length rest ≡ place + length text
  pub room : at + length rest ≤ length bytes
  pub same : length bytes ≡ length bytes₀
  pub leads : sets bytes at rest ≡ sets bytes₀ place text

pub storing-start : (text : List ℕ) (place : ℕ) (bytes : List ℕ) → place + length text ≤ length bytes →
    Storing text place bytes text place bytes
storing-start text place bytes h = record { behind = refl; room = h; same = refl; leads = refl }

module _ (text : List ℕ) (place : ℕ) (bytes₀ rest : List ℕ) (at : ℕ) (bytes : List ℕ)
    (s : Storing text place bytes₀ rest at bytes) where
  module _ (part others : List ℕ) (parts : rest ≡ part ++ others) where
    lengths : length rest ≡ length part + length others
    lengths = ap length parts ∙ length-append part others

    pub storing-room : at + length part ≤ length bytes
    storing-room = omega (arith, s.room, lengths)

    pub storing-part : (next : ℕ) (left : List ℕ) → Stored part at bytes next left →
        Storing text place bytes₀ others next left
    storing-part next left p =
        record {
          behind = omega (arith, s.behind, p.behind, lengths);
          room = omega (arith, s.room, p.behind, lengths, stored-kept part at bytes next left p);
          same = stored-kept part at bytes next left p ∙ s.same;
          leads = rw (p.leaves, p.behind)
              (sym (sets-append part others bytes at) ∙ rw parts at s.leads);
        }

  pub storing-done : rest ≡ [] → Stored text place bytes₀ at bytes
  storing-done e =
      record { behind = omega (arith, s.behind, ap length e); leaves = rw e at s.leads }

-- a word copied into the first bytes
pub word-put : (word bytes copied : List ℕ) → length word ≤ length bytes → copied ≡ word →
    Stored word 0 bytes (length word) (copied ++ drop (length word) bytes)
word-put word bytes copied h e =
    record {
      behind = omega arith;
      leaves = rw e (sym (filled-stored word bytes h ∙ filled-there word bytes h));
    }
