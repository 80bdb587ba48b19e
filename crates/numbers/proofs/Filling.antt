-- Filling slots with the numbers of a stream: what is stored and what is left to store give the slots' later contents.
use Rattle.std.specs.Prelude.{Result, Ok, Err}
use mathlib.Core.List.{List, []}
use mathlib.Core.Path.{◌≡◌, refl, sym, ◌∙◌}
use Prim.Native.Nat.{ℕ, ◌+◌, ◌<◌, ◌≤◌}
use native.Mathlib.Numerals.{add-one}
use native.Mathlib.Omega.{arith}
use lib.ListN.{length, drop, get_or, set, length-set}
use lib.Seq.{sets}
use Rattle.rules.specs.declared.Reason.{Reason}
use Rattle.rules.specs.Numbers.{Stream, numbers, broken, stream_from}
use Rattle.rules.specs.Answers.{number_of, left_by_stream, read_leaves}
use Rattle.rules.proofs.Codec.{stream-reads, First, first-is, first_of}
use Rattle.numbers.specs.declared.Number.{Number}
use Rattle.numbers.specs.Parts.{stream_at, NumberAt, Readable, readable}
use Rattle.numbers.proofs.Room.{filled-stored}
use Rattle.numbers.proofs.Within.{stream-none, number-one, number-ahead}

-- the numbers `rest` are still to be stored, from slot `index` on
pub record Filling (bytes slots₀ slots : List ℕ) (index at : ℕ) : Type 0 where
  pub rest : List ℕ
  pub reads : stream_from at 0 0 (drop at bytes) ≡ numbers rest
  pub room : index + length rest ≤ length slots
  pub same : length slots ≡ length slots₀
  pub leads : sets slots index rest ≡ read_leaves bytes slots₀

pub filling-start : (bytes slots : List ℕ) → Readable bytes (length slots) → Filling bytes slots slots 0 0
unfolding read_leaves left_by_stream
filling-start bytes slots (readable ns r h) =
    record {
      rest = ns;
      reads = stream-reads bytes ns r;
      room = omega arith;
      same = refl;
      leads = filled-stored ns slots h ∙ sym (rw r);
    }

module _ (bytes slots₀ slots : List ℕ) (index at : ℕ) (f : Filling bytes slots₀ slots index at)
    (r : Result Number Reason) (found : NumberAt bytes at r) where
  module _ (number : Number) (e : r ≡ Ok number) where
    abbrev behind : Stream
    behind = stream_from number.next 0 0 (drop number.next bytes)

    next-first : First number.value behind f.rest
    unfolding stream_at
    next-first = first_of number.value behind f.rest (sym (found.reads ∙ rw e) ∙ f.reads)

    pub filling-room : index < length slots
    filling-room = go f.rest f.room next-first
      where
        go : (rest : List ℕ) → index + length rest ≤ length slots → First number.value behind rest → index < length slots
        go rest h (first-is others s v) = omega (arith, rw v at h)

    pub filling-more : Filling bytes slots₀ (set slots index number.value) (index + 1) number.next
    filling-more = go f.rest f.room f.leads next-first
      where
        go : (rest : List ℕ) → index + length rest ≤ length slots → sets slots index rest ≡ read_leaves bytes slots₀ →
            First number.value behind rest → Filling bytes slots₀ (set slots index number.value) (index + 1) number.next
        go rest h leads (first-is others s v) =
            record {
              rest = others;
              reads = s;
              room = rw length-set (omega (arith, rw v at h));
              same = length-set slots index number.value ∙ f.same;
              leads = rw (add-one index) (rw v at leads);
            }

  -- what is refused is no number of a stream that reads
  pub filling-broken : (reason : Reason) → r ≡ Err reason → slots ≡ read_leaves bytes slots₀
  unfolding stream_at
  filling-broken reason e =
      let never : broken (number_of reason) at ≡ numbers f.rest = sym (found.reads ∙ rw e) ∙ f.reads in
      let z : ◌≡◌ {A = ℕ} 0 1 = cc in absurd (omega arith)

module _ (bytes slots₀ slots : List ℕ) (index at : ℕ) (f : Filling bytes slots₀ slots index at) where
  module _ (inside : at < length bytes) (small : get_or bytes at 0 < 128) where
    abbrev number : Number
    number = record { value = get_or bytes at 0; next = at + 1 }

    one : NumberAt bytes at (Ok number)
    one = number-one bytes at inside small

    pub filling-one-room : index < length slots
    filling-one-room = filling-room bytes slots₀ slots index at f (Ok number) one number refl

    pub filling-one : Filling bytes slots₀ (set slots index (get_or bytes at 0)) (index + 1) (at + 1)
    filling-one = filling-more bytes slots₀ slots index at f (Ok number) one number refl

  pub filling-done : length bytes ≤ at → slots ≡ read_leaves bytes slots₀
  filling-done end =
      let none : numbers [] ≡ numbers f.rest = sym (stream-none bytes at end) ∙ f.reads in
      let nothing : f.rest ≡ [] = cc in
      rw nothing at f.leads

pub ruleset fillings = (
  filling-start,
  filling-one-room,
  filling-one,
  filling-room,
  filling-more,
  filling-broken,
  filling-done,
  number-ahead,
)
