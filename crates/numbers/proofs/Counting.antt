-- Counting the numbers of a stream, one after the other: what is counted and what is left give the answer.
use Rattle.std.specs.Prelude.{Result, Ok, Err}
use mathlib.Core.List.{List, [], ◌∷◌}
use mathlib.Core.Path.{◌≡◌, refl, sym, ◌∙◌}
use Prim.Native.Nat.{ℕ, suc, ◌+◌, ◌<◌, ◌≤◌}
use native.Mathlib.Nat.{add-zero, zero-add}
use native.Mathlib.Omega.{arith}
use lib.ListN.{length, drop, get_or}
use Rattle.rules.specs.declared.Refusal.{Refusal}
use Rattle.rules.specs.declared.Reason.{Reason}
use Rattle.rules.specs.declared.Reason.TheVariants.{Size, Room}
use Rattle.rules.specs.Numbers.{Stream, numbers, broken, with_first, stream_from, most_bytes}
use Rattle.rules.specs.Answers.{number_of, of_read, of_refusal, with_room, read_stream, read_says}
use Rattle.rules.proofs.Codec.{stream-sized, stream-empty, stream-long}
use Rattle.numbers.specs.declared.Number.{Number}
use Rattle.numbers.specs.Parts.{stream_at, NumberAt}
use Rattle.numbers.proofs.Room.{room-told, room-refused}
use Rattle.numbers.proofs.Within.{stream-none, number-one, number-ahead}

-- the answer for a stream behind so many numbers
pub answer_behind : ℕ → Stream → ℕ → List ℕ
answer_behind count (numbers ns) room = with_room (count + length ns) room (1 ∷ (count + length ns) ∷ [])
answer_behind count (broken number place) room = 0 ∷ number ∷ place ∷ []

behind-none : (stream : Stream) (room : ℕ) → answer_behind 0 stream room ≡ read_stream stream room
unfolding answer_behind read_stream
behind-none (numbers ns) room = rw zero-add
behind-none (broken number place) room = refl

behind-one : (count value room : ℕ) (stream : Stream) →
    answer_behind (count + 1) stream room ≡ answer_behind count (with_first value stream) room
unfolding answer_behind with_first
behind-one count value room (numbers ns) = let e : count + 1 + length ns ≡ count + suc (length ns) = omega arith in rw e
behind-one count value room (broken number place) = refl

-- so many numbers are counted before `at`
pub record Counting (bytes : List ℕ) (room count at : ℕ) : Type 0 where
  pub fewer : count ≤ at
  pub inside : at ≤ length bytes
  pub leads : answer_behind count (stream_from at 0 0 (drop at bytes)) room ≡ read_stream (stream_from 0 0 0 bytes) room

pub counting-start : (bytes : List ℕ) (room : ℕ) → Counting bytes room 0 0
counting-start bytes room =
    record { fewer = omega arith; inside = omega arith; leads = behind-none (stream_from 0 0 0 bytes) room }

module _ (bytes : List ℕ) (room count at : ℕ) (c : Counting bytes room count at)
    (r : Result Number Reason) (found : NumberAt bytes at r) where
  pub counting_more : (number : Number) → r ≡ Ok number → Counting bytes room (count + 1) number.next
  unfolding stream_at
  counting_more number e =
      let stream : Stream = stream_from number.next 0 0 (drop number.next bytes) in
      let behind : stream_from at 0 0 (drop at bytes) ≡ with_first number.value stream = found.reads ∙ rw e in
      record {
        fewer = omega (arith, (found.on number e).0);
        inside = (found.on number e).1;
        leads = behind-one count number.value room stream ∙ rw behind at c.leads;
      }

  pub counting-broken : (reason : Reason) → r ≡ Err reason →
      of_read (Err (record { reason = reason; place = at })) ≡ read_stream (stream_from 0 0 0 bytes) room
  unfolding of_read of_refusal stream_at answer_behind
  counting-broken reason e =
      let broken : stream_from at 0 0 (drop at bytes) ≡ broken (number_of reason) at = found.reads ∙ rw e in
      rw broken at c.leads

module _ (bytes : List ℕ) (room count at : ℕ) (c : Counting bytes room count at) where
  pub counting-one : at < length bytes → get_or bytes at 0 < 128 → Counting bytes room (count + 1) (at + 1)
  counting-one inside small =
      let byte : ℕ = get_or bytes at 0 in
      let number : Number = record { value = byte; next = at + 1 } in
      counting_more bytes room count at c (Ok number) (number-one bytes at inside small) number refl

  pub counting-end : length bytes ≤ at → with_room count room (1 ∷ count ∷ []) ≡ read_stream (stream_from 0 0 0 bytes) room
  unfolding answer_behind
  counting-end end = rw (stream-none bytes at end, add-zero count) at c.leads

  pub counting-room : length bytes ≤ at → count ≤ room → of_read (Ok count) ≡ read_stream (stream_from 0 0 0 bytes) room
  unfolding of_read
  counting-room end h = sym (room-told count room (1 ∷ count ∷ []) h) ∙ counting-end end

  pub counting-full : length bytes ≤ at → room < count →
      of_read (Err (record { reason = Room; place = 0 })) ≡ read_stream (stream_from 0 0 0 bytes) room
  unfolding of_read of_refusal
  counting-full end h = sym (room-refused count room (1 ∷ count ∷ []) h) ∙ counting-end end

-- the tests before the count
module _ (bytes : List ℕ) (room : ℕ) where
  pub count_none : length bytes ≡ 0 → of_read (Err (record { reason = Size; place = 0 })) ≡ read_says bytes room
  unfolding of_read of_refusal read_says read_stream
  count_none e = sym (rw (stream-empty bytes e))

  pub count_long : most_bytes < length bytes → of_read (Err (record { reason = Size; place = 0 })) ≡ read_says bytes room
  unfolding of_read of_refusal read_says read_stream
  count_long h = sym (rw (stream-long bytes h))

  pub count-sized : (a : Result ℕ Refusal) → (length bytes ≡ 0 → ⊥) → length bytes ≤ most_bytes →
      of_read a ≡ read_stream (stream_from 0 0 0 bytes) room → of_read a ≡ read_says bytes room
  unfolding read_says
  count-sized a n h says = says ∙ sym (rw (stream-sized bytes n h))

pub ruleset counts = (
  counting-start,
  number-ahead,
  counting-one,
  counting_more,
  counting-broken,
  counting-room,
  counting-full,
  count_none,
  count_long,
  count-sized,
)
