-- The lines as a whole: from the parts that were put to what is promised.
use Rattle.std.specs.Prelude.{Result, Ok, Err}
use mathlib.Core.List.{List, [], ◌∷◌, ◌++◌}
use mathlib.Core.Path.{◌≡◌, refl, sym, ap, ◌∙◌}
use Prim.Native.Nat.{ℕ, ◌+◌, ◌<◌, ◌≤◌}
use native.Mathlib.Omega.{arith}
use lib.ListN.{length, set, length-append}
use lib.Seq.{sets, length-sets}
use Rattle.rules.specs.declared.Reason.TheVariants.{Room}
use Rattle.rules.specs.declared.Refusal.{Refusal}
use Rattle.rules.specs.declared.Signal.{Signal}
use Rattle.rules.specs.declared.Signal.TheVariants.{Reject}
use Rattle.rules.specs.Answers.{number_of, of_write, of_refusal, ended}
use Rattle.rules.specs.Lines.{blank, newline, decimal, behind_blanks, between_blanks, word_of, refused_word, refused_line, lines_of}
use Rattle.numbers.proofs.Room.{room-there, room-told, filled-stored, filled-refused}
use Rattle.lines.specs.Promises.{Prints}
use Rattle.lines.specs.Parts.{word_line, store_line, measured, Stored}
use Rattle.lines.proofs.Texts.{length-word, length-store, refused-text, ended-text, reject_word, done-word, exit-word, reject-word, reject-letters}
use Rattle.lines.proofs.Storing.{stored-byte, stored-kept, stored-both}
use Rattle.lines.proofs.Measuring.{measured-length, measured-short, word-few}

-- a line: what it is of, and its end
module _ (text : List ℕ) (place : ℕ) (bytes : List ℕ) (end : ℕ) (left : List ℕ)
    (p : Stored text place bytes end left) where
  ended-line : Stored (text ++ newline ∷ []) place bytes (end + 1) (set left end newline)
  ended-line =
      stored-both text place bytes end left p (newline ∷ []) (end + 1) (set left end newline)
      (stored-byte newline end left)

  pub line_kept : length (set left end newline) ≡ length bytes
  line_kept = stored-kept (text ++ newline ∷ []) place bytes (end + 1) (set left end newline) ended-line

-- a word and two numbers
module _ (word : List ℕ) (first second : ℕ) (bytes : List ℕ)
    (h : length (word_line word first second) ≤ length bytes) where
  abbrev pair : List ℕ
  pair = behind_blanks (first ∷ second ∷ [])

  pub line_word : length word ≤ length bytes
  line_word = omega (arith, length-word word first second)

  module _ (next : ℕ) (left : List ℕ) (p : Stored word 0 bytes next left) where
    pub line-pair : next + length (behind_blanks (first ∷ second ∷ [])) ≤ length left
    line-pair =
        omega (arith, length-word word first second, p.behind, stored-kept word 0 bytes next left p)

    module _ (end : ℕ) (left' : List ℕ) (q : Stored (behind_blanks (first ∷ second ∷ [])) next left end left') where
      both : Stored (word ++ pair) 0 bytes end left'
      both = stored-both word 0 bytes next left p pair end left' q

      pub line-end : end < length left'
      line-end =
          omega (
            arith,
            length-word word first second,
            both.behind,
            length-append word pair,
            stored-kept (word ++ pair) 0 bytes end left' both,
          )

      pub line-put : set left' end newline ≡ sets bytes 0 (word_line word first second)
      unfolding word_line
      line-put = (ended-line (word ++ pair) 0 bytes end left' both).leaves

      pub line_same : length (set left' end newline) ≡ length bytes
      line_same = line_kept (word ++ pair) 0 bytes end left' both

pub ruleset words = (line_word, line-pair, line-end, line-put, line_same)

-- the store's numbers
module _ (ns : List ℕ) (place : ℕ) (bytes : List ℕ) (h : place + length (store_line ns) ≤ length bytes) where
  pub store-numbers : place + length (between_blanks ns) ≤ length bytes
  store-numbers = omega (arith, length-store ns)

  module _ (end : ℕ) (left : List ℕ) (p : Stored (between_blanks ns) place bytes end left) where
    pub store-end : end < length left
    store-end = omega (arith, length-store ns, p.behind, stored-kept (between_blanks ns) place bytes end left p)

    pub store-put : set left end newline ≡ sets bytes place (store_line ns)
    unfolding store_line
    store-put = (ended-line (between_blanks ns) place bytes end left p).leaves

pub ruleset stores = (store-numbers, store-end, store-put, line_kept)

-- what is promised of a text that was put, and of one for which there is no room
prints-put : (text bytes : List ℕ) (n : ℕ) (left : List ℕ) → n ≡ length text → n ≤ length bytes →
    left ≡ sets bytes 0 text → Prints text bytes (Ok n) left
prints-put text bytes n left e h p =
    let room : length text ≤ length bytes = omega arith in
    record {
      says = measured-length (length text) (length bytes) n e room;
      leaves = p ∙ filled-stored text bytes room;
    }

prints-kept : (text bytes : List ℕ) (refusal : Refusal) → of_write (Err refusal) ≡ measured (length text) (length bytes) →
    Prints text bytes (Err refusal) bytes
unfolding of_write of_refusal
prints-kept text bytes refusal says =
    record {
      says = says;
      leaves = filled-refused text bytes (number_of refusal.reason) refusal.place (length text ∷ []) says;
    }

-- the word of a signal, and behind that of a reject its error
module _ (signal : Signal) (word bytes : List ℕ) (e : word_of signal ≡ word) where
  pub named-room : length (word_of signal) ≤ length bytes → length word ≤ length bytes
  named-room h = rw e at h

  pub named_put : (next : ℕ) (left : List ℕ) → Stored word 0 bytes next left → Stored (word_of signal) 0 bytes next left
  named_put next left p = rw e p

module _ (signal : Signal) (error : ℕ) (e : signal ≡ Reject error) (bytes : List ℕ)
    (h : length (word_of signal) ≤ length bytes) where
  pub reject-room : length reject_word ≤ length bytes
  reject-room = omega (arith, reject-letters signal error e)

  module _ (next : ℕ) (left : List ℕ) (p : Stored reject_word 0 bytes next left) where
    pub error-room : next + length (blank ∷ decimal error) ≤ length left
    error-room =
        omega (arith, reject-letters signal error e, p.behind, stored-kept reject_word 0 bytes next left p)

    pub reject-put : (end : ℕ) (left' : List ℕ) → Stored (blank ∷ decimal error) next left end left' →
        Stored (word_of signal) 0 bytes end left'
    reject-put end left' q =
        rw (reject-word signal error e)
        (stored-both reject_word 0 bytes next left p (blank ∷ decimal error) end left' q)

pub ruleset signals =
    (done-word, exit-word, named-room, named_put, reject-room, error-room, reject-put)

-- all of a refusal
module _ (number place : ℕ) (bytes : List ℕ) (n : ℕ) (e : n ≡ 7 + length (behind_blanks (number ∷ place ∷ [])) + 1) where
  abbrev refusal-text : List ℕ
  refusal-text = refused_line number place

  refused-length : n ≡ length refusal-text
  refused-length = omega (arith, length-word refused_word number place, ap length (refused-text number place))

  pub refused-room : n ≤ length bytes → length (word_line refused_word number place) ≤ length bytes
  refused-room h = omega (arith, length-word refused_word number place)

  pub refused-put : n ≤ length bytes → (left : List ℕ) → left ≡ sets bytes 0 (word_line refused_word number place) →
      Prints (refused_line number place) bytes (Ok n) left
  refused-put h left p = prints-put refusal-text bytes n left refused-length h (rw (refused-text number place) p)

  pub refused-short : length bytes < n →
      Prints (refused_line number place) bytes (Err (record { reason = Room; place = 0 })) bytes
  refused-short h =
      prints-kept refusal-text bytes (record { reason = Room; place = 0 })
      (measured-short (length refusal-text) (length bytes) (omega (arith, refused-length)))

pub ruleset refusals = (refused-room, refused-put, refused-short)

pub letters-few : (signal : Signal) (letters : ℕ) → letters ≡ length (word_of signal) → letters ≤ 27
letters-few signal letters e = omega (arith, word-few signal)

-- all of a run that ended: the measure decides the answer, and with it whether the lines are put
module _ (signal : Signal) (steps ceiling : ℕ) (store bytes : List ℕ) (line : ℕ) (letters : ℕ)
    (w : letters ≡ length (word_of signal))
    (e : line ≡ letters + length (behind_blanks (steps ∷ ceiling ∷ [])) + 1) (a : Result ℕ Refusal)
    (says : of_write a ≡ measured (line + length (store_line store)) (length bytes)) where
  abbrev text : List ℕ
  text = lines_of (ended signal steps ceiling store)

  abbrev first-line : List ℕ
  first-line = word_line (word_of signal) steps ceiling

  line-is : line ≡ length first-line
  line-is = omega (arith, length-word (word_of signal) steps ceiling)

  all-is : line + length (store_line store) ≡ length text
  all-is =
      omega
      (arith, line-is, ap length (ended-text signal steps ceiling store), length-append first-line (store_line store))

  tells : of_write a ≡ measured (length text) (length bytes)
  tells = rw all-is at says

  module _ (n : ℕ) (is : a ≡ Ok n) where
    told : 1 ∷ n ∷ [] ≡ measured (length text) (length bytes)
    unfolding of_write
    told = ap of_write (sym is) ∙ tells

    room : length text ≤ length bytes
    room = room-there (length text) (length bytes) n (1 ∷ length text ∷ []) told

    length-is : n ≡ length text
    length-is = cc (told, room-told (length text) (length bytes) (1 ∷ length text ∷ []) room)

    pub ended-first : length (word_line (word_of signal) steps ceiling) ≤ length bytes
    ended-first = omega (arith, line-is, all-is, room)

    module _ (left : List ℕ) (p : left ≡ sets bytes 0 (word_line (word_of signal) steps ceiling)) where
      pub ended-second : line + length (store_line store) ≤ length left
      ended-second = omega (arith, all-is, room, ap length p, length-sets bytes 0 first-line)

      pub ended-put : (left' : List ℕ) → left' ≡ sets left line (store_line store) →
          Prints (lines_of (ended signal steps ceiling store)) bytes (Ok n) left'
      ended-put left' q =
          prints-put text bytes n left' length-is (omega (arith, length-is, room))
          (rw (ended-text signal steps ceiling store)
          (stored-both first-line 0 bytes line left (record { behind = omega (arith, line-is); leaves = p })
          (store_line store)
          (line + length (store_line store))
          left'
          (record { behind = refl; leaves = q })
          ).leaves)

  pub ended-short : (refusal : Refusal) → a ≡ Err refusal →
      Prints (lines_of (ended signal steps ceiling store)) bytes (Err refusal) bytes
  ended-short refusal is = prints-kept text bytes refusal (ap of_write (sym is) ∙ tells)

pub ruleset endings = (letters-few, ended-first, ended-second, ended-put, ended-short)
