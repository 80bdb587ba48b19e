-- Where the lists that are read stand: each reader from an index on gives what stands there, and leaves the numbers
-- from the index behind it on.
use mathlib.Core.Bool.{Bool, true, false, false≢true}
use mathlib.Core.Option.{Option, none, some}
use mathlib.Core.Path.{◌≡◌, refl, sym, ◌∙◌, ap}
use mathlib.Core.List.{List, [], ◌∷◌, ◌++◌}
use Prim.Native.Nat.{ℕ, zero, suc, ◌+◌, ◌≤◌, ◌<◌}
use native.Mathlib.Omega.{arith}
use native.Mathlib.Numerals.{add-one}
use lib.ListN.{length, get_or, get_elem?, drop, length-append}
use lib.Seq.{drop-cons}
use lib.Dec.{ltb, leb, eqb}
use borrow.Author.Tests.{ltb-true, ltb-false, leb-true}
use Rattle.rules.specs.Syntax.{bool, KeyKind, exact, lpm, ternary, Key, Parameter, Global, Program}
use Rattle.rules.specs.Reading.{Got, got, bad, Reader, and_then, ◌>>=◌, pure, meaning, looked_up, within, repeat, has_parser}
use Rattle.rules.specs.Form.{and_look, only_if, fits, Shape, a_variable, a_header, shape_in}
use Rattle.rules.specs.Lists.{Pattern, Entry, Cell, most_entries, most_packet, passing, is_byte, asked, key_width, action_at, numbered, mark_of, slots_of_cell, slots_of}
use Rattle.rules.specs.Lists.{read_pattern, read_patterns, read_arguments, read_entry, read_entries, read_fields, read_shape, read_cell, read_cells, read_store, read_bytes, read_packet, nothing_left}
use Rattle.rules.proofs.Readers.{looked-in, looked-out}
use Rattle.program.specs.Stands.{Holds}
use Rattle.lists.specs.Listing.{pattern_size, patterns_size, entry_size, starts_from, behind_entries, shape_size, offsets_from, Lists, read_last, listing}
use Rattle.lists.specs.Stands.{HoldsAll, StandsPattern, on-exact, on-lpm, on-ternary, StandsPatterns, on_none, on-pattern, StandsEntry, StandsCell, StandsPacket}

-- what a reader gives from an index on, and the index behind it
unfoldable pub PlacedAt : {A : Type 0} → (List ℕ → ℕ → ℕ → A → Type 0) → List ℕ → ℕ → Got A → Type 0
PlacedAt Stands nums at (got a left next) = (left ≡ drop next nums) × Stands nums at next a
PlacedAt Stands nums at (bad number index) = Unit

pub record Placed {A : Type 0} (Stands : List ℕ → ℕ → ℕ → A → Type 0) (read : Reader A) : Type 0 where
  pub placed : (nums : List ℕ) (at : ℕ) → PlacedAt Stands nums at (read (drop at nums) at)

pub placed-then : {A B : Type 0} {S : List ℕ → ℕ → ℕ → A → Type 0} {U : List ℕ → ℕ → ℕ → B → Type 0} {read : Reader A}
    {k : A → Reader B} → Placed S read
    → ((a : A) → Placed (λ nums mid next b. (at : ℕ) → S nums at mid a → U nums at next b) (k a))
    → Placed U (read >>= k)
unfolding ◌>>=◌ and_then PlacedAt
placed-then {A} {B} {S} {U} {read} {k} h g =
    record { placed = λ nums at. go nums at (read (drop at nums) at) (h.placed nums at) }
  where
    inner : (nums : List ℕ) (at mid : ℕ) (a : A) (y : Got B) → S nums at mid a
        → PlacedAt (λ nums mid next b. (at : ℕ) → S nums at mid a → U nums at next b) nums mid y
        → PlacedAt U nums at y
    inner nums at mid a (got b left next) s p = (p.0, p.1 at s)
    inner nums at mid a (bad number index) s p = tt

    go : (nums : List ℕ) (at : ℕ) (x : Got A) → PlacedAt S nums at x → PlacedAt U nums at (and_then x k)
    go nums at (got a left next) p =
        rw p.0 (inner nums at next a (k a (drop next nums) next) p.1 ((g a).placed nums next))
    go nums at (bad number index) p = tt

pub placed-pure : {A : Type 0} {S : List ℕ → ℕ → ℕ → A → Type 0} (a : A) → ((nums : List ℕ) (at : ℕ) → S nums at at a)
    → Placed S (pure a)
unfolding pure PlacedAt
placed-pure a s = record { placed = λ nums at. (refl, s nums at) }

-- a number that names something
pub record Named {A : Type 0} (what : ℕ → Option A) (nums : List ℕ) (at next : ℕ) (a : A) : Type 0 where
  pub inside : at < length nums
  pub names : what (get_or nums at 0) ≡ some a
  pub after : next ≡ at + 1

pub placed-looked : {A : Type 0} (fault : ℕ) (what : ℕ → Option A) → Placed (Named what) (looked_up fault what)
unfolding PlacedAt meaning
placed-looked {A} fault what = record { placed = λ nums at. go nums at (ltb at (length nums)) refl }
  where
    found : (nums : List ℕ) (at : ℕ) → at < length nums → (o : Option A) → what (get_or nums at 0) ≡ o
        → PlacedAt (Named what) nums at (meaning fault o (drop (suc at) nums) at)
    found nums at h none e = tt
    found nums at h (some a) e = (refl, record { inside = h; names = e; after = sym (add-one at) })

    go : (nums : List ℕ) (at : ℕ) (b : Bool) → ltb at (length nums) ≡ b
        → PlacedAt (Named what) nums at (looked_up fault what (drop at nums) at)
    go nums at true e =
        let h : at < length nums = ltb-true at (length nums) e in
        rw (looked-in fault what nums at h) (found nums at h (what (get_or nums at 0)) refl)
    go nums at false e = rw (looked-out fault what nums at (ltb-false at (length nums) e)) tt

placed-as : {A : Type 0} {S T : List ℕ → ℕ → ℕ → A → Type 0} {read : Reader A}
    → ((nums : List ℕ) (at next : ℕ) (a : A) → S nums at next a → T nums at next a) → Placed S read → Placed T read
unfolding PlacedAt
placed-as {A} {S} {T} {read} f h =
    record { placed = λ nums at. go nums at (read (drop at nums) at) (h.placed nums at) }
  where
    go : (nums : List ℕ) (at : ℕ) (x : Got A) → PlacedAt S nums at x → PlacedAt T nums at x
    go nums at (got a left next) p = (p.0, f nums at next a p.1)
    go nums at (bad number index) p = tt

-- a number that passes a test
pub record Passing (test : ℕ → Bool) (nums : List ℕ) (at next n : ℕ) : Type 0 where
  pub holds : Holds nums at n
  pub passes : test n ≡ true
  pub after : next ≡ at + 1

only-some : (b : Bool) (n m : ℕ) → only_if b (some n) ≡ some m → (b ≡ true) × (n ≡ m)
unfolding only_if
only-some true n m e = (refl, cc)
only-some false n m e = let z : ◌≡◌ {A = ℕ} 0 1 = cc in absurd (omega arith)

pub placed-passing : (fault : ℕ) (test : ℕ → Bool) → Placed (Passing test) (passing fault test)
unfolding passing
placed-passing fault test = placed-as
    (λ nums at next n s.
    let o : (test (get_or nums at 0) ≡ true) × (get_or nums at 0 ≡ n)
    = only-some (test (get_or nums at 0)) (get_or nums at 0) n s.names in
    record { holds = record { inside = s.inside; is = o.1 }; passes = rw o.1 at o.0; after = s.after })
    (placed-looked fault _)

placed-asked : (P : Program) (test : ℕ → Bool) → Placed (Passing test) (passing 10 (asked true P test))
unfolding asked
placed-asked P test = placed-passing 10 test

-- a number with what it names
pub record Numbering {A : Type 0} (what : ℕ → Option A) (nums : List ℕ) (at next : ℕ) (x : ℕ × A) : Type 0 where
  pub holds : Holds nums at x.0
  pub names : what x.0 ≡ some x.1
  pub after : next ≡ at + 1

pub placed-numbered : {A : Type 0} (fault : ℕ) (what : ℕ → Option A)
    → Placed (Numbering what) (looked_up fault (numbered what))
unfolding numbered and_look
placed-numbered {A} fault what = placed-as
    (λ nums at next x s. go nums at next x s.inside s.after (what (get_or nums at 0)) refl s.names)
    (placed-looked fault _)
  where
    go : (nums : List ℕ) (at next : ℕ) (x : ℕ × A) → at < length nums → next ≡ at + 1 → (o : Option A)
        → what (get_or nums at 0) ≡ o → and_look o (λ a. some (get_or nums at 0, a)) ≡ some x
        → Numbering what nums at next x
    go nums at next x h l none e s = let z : ◌≡◌ {A = ℕ} 0 1 = cc in absurd (omega arith)
    go nums at next x h l (some a) e s =
        let p : (get_or nums at 0, a) ≡ x = cc in
        rw (← p) (record { holds = record { inside = h; is = refl }; names = e; after = l })

-- patterns
pub record PatternAt (k : KeyKind) (nums : List ℕ) (at next : ℕ) (p : Pattern) : Type 0 where
  pub stands : StandsPattern nums at k p
  pub after : next ≡ at + pattern_size p

pub record PatternsAt (ks : List Key) (nums : List ℕ) (at next : ℕ) (ps : List Pattern) : Type 0 where
  pub stands : StandsPatterns nums at ks ps
  pub after : next ≡ at + patterns_size ps

module _ (P : Program) where
  pub placed-pattern : (k : KeyKind) (width : ℕ) → Placed (PatternAt k) (read_pattern true P k width)
  unfolding read_pattern pattern_size
  placed-pattern exact width = placed-then (placed-asked P _) λ v. placed-pure _ λ nums next at s.
      record { stands = on-exact s.holds; after = s.after }
  placed-pattern lpm width = placed-then (placed-asked P _) λ v. placed-then (placed-asked P _) λ prefix.
      placed-pure _ λ nums next mid q at s. record {
        stands = on-lpm s.holds (rw s.after at q.holds);
        after = omega (arith, s.after, q.after);
      }
  placed-pattern ternary width = placed-then (placed-asked P _) λ v. placed-then (placed-asked P _) λ mask.
      placed-pure _ λ nums next mid q at s. record {
        stands = on-ternary s.holds (rw s.after at q.holds);
        after = omega (arith, s.after, q.after);
      }

  pub placed-patterns : (ks : List Key) → Placed (PatternsAt ks) (read_patterns true P ks)
  unfolding read_patterns patterns_size
  placed-patterns [] = placed-pure _ λ nums at. record { stands = on_none; after = omega arith }
  placed-patterns (k ∷ ks) =
      placed-then (placed-pattern k.kind (key_width P k)) λ p. placed-then (placed-patterns ks) λ ps.
      placed-pure _ λ nums next mid q at s. record {
        stands = on-pattern s.stands (rw s.after at q.stands);
        after = omega (arith, s.after, q.after);
      }

-- numbers one after the other, as many as there are of something
pub record NumbersAt (count : ℕ) (nums : List ℕ) (at next : ℕ) (ns : List ℕ) : Type 0 where
  pub holds : HoldsAll nums at ns
  pub counted : length ns ≡ count
  pub after : next ≡ at + length ns

no-numbers : (nums : List ℕ) (at : ℕ) → NumbersAt 0 nums at at []
unfolding HoldsAll
no-numbers nums at = record { holds = tt; counted = refl; after = omega arith }

more_numbers : {test : ℕ → Bool} {count : ℕ} {nums : List ℕ} {at mid next n : ℕ} {ns : List ℕ}
    → Passing test nums at mid n → NumbersAt count nums mid next ns → NumbersAt (suc count) nums at next (n ∷ ns)
unfolding HoldsAll
more_numbers s q = record {
  holds = (s.holds, rw s.after at q.holds);
  counted = ap suc q.counted;
  after = omega (arith, s.after, q.after);
}

pub placed-arguments : (P : Program) (ps : List Parameter) → Placed (NumbersAt (length ps)) (read_arguments true P ps)
unfolding read_arguments
placed-arguments P [] = placed-pure _ no-numbers
placed-arguments P (p ∷ ps) = placed-then (placed-asked P _) λ n. placed-then (placed-arguments P ps) λ ns.
    placed-pure _ λ nums next mid q at s. more_numbers s q

-- entries
pub record EntryAt (P : Program) (nums : List ℕ) (at next : ℕ) (e : Entry) : Type 0 where
  pub stands : StandsEntry P nums at e
  pub after : next ≡ at + entry_size e

pub placed-entry : (P : Program) → Placed (EntryAt P) (read_entry true P)
unfolding read_entry entry_size
placed-entry P = placed-then (placed-numbered 10 (get_elem? P.tables)) λ t.
    placed-then (placed-patterns P t.1.keys) λ ps.
    placed-then (placed-numbered 10 (action_at P t.1)) λ a.
    placed-then (placed-arguments P a.1.parameters) λ ns. placed-pure _ λ nums next d w c v b u at s.
    let e : c ≡ at + 1 + patterns_size ps = omega (arith, u.after, s.after) in
    let f : d ≡ at + 2 + patterns_size ps = omega (arith, e, v.after) in
    record {
      stands = record {
        table = t.1;
        table_is = s.names;
        action = a.1;
        action_is = v.names;
        number = s.holds;
        patterns = rw s.after at u.stands;
        position = rw e at v.holds;
        arguments = rw f at w.holds;
        count = w.counted;
      };
      after = omega (arith, f, w.after);
    }

-- entries one after the other
unfoldable pub StandEntries : Program → List ℕ → ℕ → List Entry → Type 0
StandEntries P nums at [] = Unit
StandEntries P nums at (e ∷ es) = StandsEntry P nums at e × StandEntries P nums (at + entry_size e) es

pub record EntriesAt (P : Program) (count : ℕ) (nums : List ℕ) (at next : ℕ) (es : List Entry) : Type 0 where
  pub stand : StandEntries P nums at es
  pub counted : length es ≡ count
  pub after : next ≡ behind_entries at es

pub placed-repeat : (P : Program) (count : ℕ) → Placed (EntriesAt P count) (repeat count (read_entry true P))
unfolding repeat StandEntries behind_entries
placed-repeat P zero = placed-pure _ λ nums at. record { stand = tt; counted = refl; after = refl }
placed-repeat P (suc count) = placed-then (placed-entry P) λ e. placed-then (placed-repeat P count) λ es.
    placed-pure _ λ nums next mid q at s. record {
      stand = (s.stands, rw s.after at q.stand);
      counted = ap suc q.counted;
      after = q.after ∙ rw s.after;
    }

-- the list of them, its count first
within-found : (most m n : ℕ) → within 0 most m ≡ some n → (m ≡ n) × (n ≤ most)
unfolding within
within-found most m n e = go (leb m most) refl (leb 0 m) refl
  where
    go : (b : Bool) → leb m most ≡ b → (c : Bool) → leb 0 m ≡ c → (m ≡ n) × (n ≤ most)
    go true f true l =
        let s : within 0 most m ≡ some m = rw (within, l, f) in
        let same : m ≡ n = cc in
        (same, rw (← same) (leb-true m most f))
    go false f true l =
        let s : within 0 most m ≡ none = rw (within, l, f) in
        let z : ◌≡◌ {A = ℕ} 0 1 = cc in
        absurd (omega arith)
    go b f false l =
        let s : within 0 most m ≡ none = rw (within, l) in
        let z : ◌≡◌ {A = ℕ} 0 1 = cc in
        absurd (omega arith)

pub record EntryListAt (P : Program) (nums : List ℕ) (at next : ℕ) (es : List Entry) : Type 0 where
  pub stand : StandEntries P nums (suc at) es
  pub few : length es ≤ most_entries
  pub after : next ≡ behind_entries (suc at) es

pub placed-entries : (P : Program) → Placed (EntryListAt P) (read_entries true P)
unfolding read_entries
placed-entries P = placed-then (placed-looked 10 (within 0 most_entries)) λ n. placed-as
    (λ nums mid next es q at s.
    let e : mid ≡ suc at = s.after ∙ add-one at in
    record {
      stand = rw e at q.stand;
      few = rw q.counted (within-found most_entries (get_or nums at 0) n s.names).1;
      after = rw e at q.after;
    })
    (placed-repeat P n)

-- the store
pub placed-fields : (valid : Bool) (widths : List ℕ) → Placed (NumbersAt (length widths)) (read_fields valid widths)
unfolding read_fields
placed-fields valid [] = placed-pure _ no-numbers
placed-fields valid (w ∷ widths) = placed-then (placed-passing 11 _) λ n. placed-then (placed-fields valid widths) λ ns.
    placed-pure _ λ nums next mid q at s. more_numbers s q

pub record CellAt (shape : Option Shape) (nums : List ℕ) (at next : ℕ) (c : Cell) : Type 0 where
  pub stands : StandsCell nums at c
  pub size : length (slots_of_cell c) ≡ shape_size shape
  pub after : next ≡ at + shape_size shape

mark-of : (mark : ℕ) → fits bool mark ≡ true → mark ≡ mark_of (eqb mark 1)
unfolding fits mark_of
mark-of zero e = refl
mark-of (suc zero) e = refl
mark-of (suc (suc n)) e = absurd (omega (arith, ltb-true (suc (suc n)) 2 e))

placed-shape : (shape : Shape) → Placed (CellAt (some shape)) (read_shape shape)
unfolding read_shape StandsCell slots_of_cell HoldsAll shape_size
placed-shape (a_variable t) = placed-then (placed-passing 11 _) λ n. placed-pure _ λ nums next at s.
    record { stands = (s.holds, tt); size = refl; after = s.after }
placed-shape (a_header widths) = placed-then (placed-passing 11 (fits bool)) λ mark.
    placed-then (placed-fields (eqb mark 1) widths) λ ns. placed-pure _ λ nums next mid q at s.
    let e : mark ≡ mark_of (eqb mark 1) = mark-of mark s.passes in
    record {
      stands = (record { inside = s.holds.inside; is = s.holds.is ∙ e }, rw s.after at q.holds);
      size = ap suc q.counted;
      after = omega (arith, q.after, q.counted, s.after);
    }

pub placed-cell : (shape : Option Shape) → Placed (CellAt shape) (read_cell shape)
unfolding read_cell PlacedAt
placed-cell none = record { placed = λ nums at. tt }
placed-cell (some shape) = record { placed = λ nums at. (placed-shape shape).placed nums at }

-- globals one after the other, each of its shape's size
pub data StandCells (P : Program) (nums : List ℕ) : ℕ → List Global → List Cell → Type 0 where
  no_cell : {at : ℕ} → StandCells P nums at [] []
  a-cell : {at : ℕ} {g : Global} {gs : List Global} {c : Cell} {cs : List Cell} → CellAt (shape_in P g.ty) nums at
      (at + shape_size (shape_in P g.ty)) c → StandCells P nums (at + shape_size (shape_in P g.ty)) gs cs
      → StandCells P nums at (g ∷ gs) (c ∷ cs)

pub record CellsAt (P : Program) (gs : List Global) (nums : List ℕ) (at next : ℕ) (cs : List Cell) : Type 0 where
  pub stand : StandCells P nums at gs cs
  pub after : next ≡ at + length (slots_of cs)

pub placed-cells : (P : Program) (gs : List Global) → Placed (CellsAt P gs) (read_cells P gs)
unfolding read_cells slots_of
placed-cells P [] = placed-pure _ λ nums at. record { stand = no_cell; after = omega arith }
placed-cells P (g ∷ gs) = placed-then (placed-cell (shape_in P g.ty)) λ c. placed-then (placed-cells P gs) λ cs.
    placed-pure _ λ nums next mid q at s. record {
      stand = a-cell (rw s.after at s) (rw s.after at q.stand);
      after = rw (length-append (slots_of_cell c) (slots_of cs)) (omega (arith, q.after, s.after, s.size));
    }

pub placed-store : (P : Program) → Placed (CellsAt P P.globals) (read_store P)
unfolding read_store
placed-store P = placed-cells P P.globals

-- the packet
placed-bytes : (count : ℕ) → Placed (NumbersAt count) (repeat count (passing 16 is_byte))
unfolding repeat
placed-bytes zero = placed-pure _ no-numbers
placed-bytes (suc count) = placed-then (placed-passing 16 is_byte) λ n. placed-then (placed-bytes count) λ ns.
    placed-pure _ λ nums next mid q at s. more_numbers s q

pub record BytesAt (nums : List ℕ) (at next : ℕ) (packet : List ℕ) : Type 0 where
  pub count : Holds nums at (length packet)
  pub few : length packet ≤ most_packet
  pub holds : HoldsAll nums (at + 1) packet
  pub after : next ≡ at + 1 + length packet

placed-byte-list : Placed BytesAt read_bytes
unfolding read_bytes
placed-byte-list = placed-then (placed-looked 16 (within 0 most_packet)) λ n. placed-as
    (λ nums mid next packet q at s. record {
      count = record {
        inside = s.inside;
        is = (within-found most_packet (get_or nums at 0) n s.names).0 ∙ sym q.counted;
      };
      few = rw q.counted (within-found most_packet (get_or nums at 0) n s.names).1;
      holds = rw s.after at q.holds;
      after = omega (arith, s.after, q.after);
    })
    (placed-bytes n)

-- of a program's version
pub record PacketAt (P : Program) (nums : List ℕ) (at next : ℕ) (packet : List ℕ) : Type 0 where
  pub parsed : has_parser P.version ≡ true → BytesAt nums at next packet
  pub unparsed : has_parser P.version ≡ false → packet ≡ []

pub placed-packet : (P : Program) → Placed (PacketAt P) (read_packet P)
unfolding read_packet
placed-packet P = go (has_parser P.version) refl
  where
    go : (b : Bool) → has_parser P.version ≡ b
        → Placed (PacketAt P) (elim b [ true ↦ read_bytes | false ↦ pure [] ])
    go true e = placed-as
        (λ nums at next packet s. record {
          parsed = λ t. s;
          unparsed = λ f. let z : true ≡ false = sym e ∙ f in absurd (false≢true (sym z));
        })
        placed-byte-list
    go false e = placed-pure _ λ nums at.
        record { parsed = λ t. let z : false ≡ true = sym e ∙ t in absurd (false≢true z); unparsed = λ f. refl }

-- nothing behind it
pub record EndsAt (nums : List ℕ) (at next : ℕ) (ended : Unit {0}) : Type 0 where
  pub here : next ≡ at
  pub none : drop at nums ≡ []

left-none : (nums : List ℕ) (at : ℕ) (left : List ℕ) → drop at nums ≡ left → PlacedAt EndsAt nums at (nothing_left left at)
unfolding nothing_left PlacedAt
left-none nums at [] e = (sym e, record { here = refl; none = e })
left-none nums at (n ∷ left) e = tt

-- numbers behind which nothing is left are all that is left
holds-rest : (nums : List ℕ) (at : ℕ) (ns : List ℕ) → HoldsAll nums at ns → drop (at + length ns) nums ≡ []
    → ns ≡ drop at nums
unfolding HoldsAll
holds-rest nums at [] h e =
    let same : at + 0 ≡ at = omega arith in
    sym (rw same at e)
holds-rest nums at (n ∷ ns) h e =
    let same : at + suc (length ns) ≡ at + 1 + length ns = omega arith in
    rw (drop-cons nums at 0 h.0.inside, h.0.is, holds-rest nums (at + 1) ns h.1 (rw same at e), add-one at)

pub record LastAt (P : Program) (nums : List ℕ) (at next : ℕ) (packet : List ℕ) : Type 0 where
  pub parsed : has_parser P.version ≡ true → StandsPacket nums at packet
  pub unparsed : has_parser P.version ≡ false → packet ≡ []

pub placed-last : (P : Program) → Placed (LastAt P) (read_last P)
unfolding read_last
placed-last P = placed-then (placed-packet P) λ packet.
    placed-then {S = EndsAt} (record { placed = λ nums at. left-none nums at (drop at nums) refl })
    λ ended. placed-pure _ λ nums next mid e at s. record {
      parsed = λ t. record {
        count = (s.parsed t).count;
        few = (s.parsed t).few;
        rest = holds-rest nums (at + 1) packet (s.parsed t).holds (rw (s.parsed t).after at e.none);
      };
      unparsed = s.unparsed;
    }

-- all lists
pub record ListsAt (P : Program) (nums : List ℕ) (at next : ℕ) (lists : Lists) : Type 0 where
  pub entries : StandEntries P nums (suc at) lists.entries
  pub few : length lists.entries ≤ most_entries
  pub cells : StandCells P nums (behind_entries (suc at) lists.entries) P.globals lists.cells
  pub parsed : has_parser P.version ≡ true
      → StandsPacket nums (behind_entries (suc at) lists.entries + length (slots_of lists.cells)) lists.packet
  pub unparsed : has_parser P.version ≡ false → lists.packet ≡ []

pub placed-listing : (P : Program) → Placed (ListsAt P) (listing P)
unfolding listing
placed-listing P = placed-then (placed-entries P) λ es. placed-then (placed-store P) λ cells.
    placed-then (placed-last P) λ packet. placed-pure _ λ nums next d w c v at s.
    record {
      entries = s.stand;
      few = s.few;
      cells = rw s.after at v.stand;
      parsed = λ t. rw (v.after, s.after) at (w.parsed t);
      unparsed = w.unparsed;
    }

-- an entry stands where it begins
pub entry-stands : (P : Program) (nums : List ℕ) (at : ℕ) (es : List Entry) → StandEntries P nums at es
    → (i : ℕ) (e : Entry) → get_elem? es i ≡ some e → StandsEntry P nums (get_or (starts_from at es) i 0) e
unfolding StandEntries starts_from
entry-stands P nums at [] h i e q = let z : ◌≡◌ {A = ℕ} 0 1 = cc in absurd (omega arith)
entry-stands P nums at (d ∷ es) h zero e q =
    let same : d ≡ e = cc in
    rw (← same) h.0
entry-stands P nums at (d ∷ es) h (suc i) e q = entry-stands P nums (at + entry_size d) es h.1 i e q

-- a global stands at its offset, and the last offset is the store's length
pub cell-stands : {P : Program} {nums : List ℕ} {at : ℕ} {gs : List Global} {cs : List Cell} (offset store : ℕ)
    → store + offset ≡ at → StandCells P nums at gs cs
    → (g : ℕ) (c : Cell) → get_elem? cs g ≡ some c → StandsCell nums (store + get_or (offsets_from P offset gs) g 0) c
unfolding offsets_from
cell-stands offset store e no_cell g c q = let z : ◌≡◌ {A = ℕ} 0 1 = cc in absurd (omega arith)
cell-stands offset store e (a-cell {c = d} h hs) zero c q =
    let same : d ≡ c = cc in
    rw (← same, e) h.stands
cell-stands offset store e (a-cell h hs) (suc g) c q = cell-stands _ store (omega (arith, e)) hs g c q

pub last-offset : {P : Program} {nums : List ℕ} {at : ℕ} {gs : List Global} {cs : List Cell} (offset : ℕ)
    → StandCells P nums at gs cs → get_or (offsets_from P offset gs) (length gs) 0 ≡ offset + length (slots_of cs)
unfolding offsets_from slots_of
last-offset offset no_cell = omega arith
last-offset offset (a-cell {c = c} {cs = cs} h hs) = last-offset _ hs
    ∙ rw (length-append (slots_of_cell c) (slots_of cs)) (omega (arith, h.size))

-- the store's numbers stand one after the other
holds-both : (nums : List ℕ) (at : ℕ) (ns ms : List ℕ) → HoldsAll nums at ns → HoldsAll nums (at + length ns) ms
    → HoldsAll nums at (ns ++ ms)
unfolding HoldsAll
holds-both nums at [] ms h k =
    let e : at + 0 ≡ at = omega arith in
    rw e at k
holds-both nums at (n ∷ ns) ms h k =
    let e : at + suc (length ns) ≡ at + 1 + length ns = omega arith in
    (h.0, holds-both nums (at + 1) ns ms h.1 (rw e at k))

pub store-stands : {P : Program} {nums : List ℕ} {at : ℕ} {gs : List Global} {cs : List Cell}
    → StandCells P nums at gs cs → HoldsAll nums at (slots_of cs)
unfolding slots_of HoldsAll StandsCell
store-stands no_cell = tt
store-stands {nums = nums} {at = at} (a-cell {c = c} {cs = cs} h hs) =
    holds-both nums at (slots_of_cell c) (slots_of cs) h.stands (rw h.size (store-stands hs))
