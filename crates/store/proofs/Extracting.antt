-- A header filled from the packet: where its widths and its slots stand, and what becomes of the state.
use Rattle.program.specs.declared.Scope as coded
use mathlib.Core.Bool.{true, false}
use mathlib.Core.Option.{some}
use mathlib.Core.Path.{◌≡◌, refl, sym, ap, ◌∙◌}
use mathlib.Core.List.{List, [], ◌∷◌}
use Prim.Native.Nat.{ℕ, zero, suc, ◌+◌, ◌-◌, ◌/◌, ◌≤◌, ◌<◌}
use native.Mathlib.Numerals.{add-one}
use native.Mathlib.Omega.{arith}
use lib.Dec.{leb}
use lib.ListN.{length, get_or, set, drop, length-set, length-drop}
use lib.Seq.{get_or-set_same, get_or-set_other, drop-cons, drop-drop}
use borrow.Author.Tests.{le-leb, lt-leb}
use Rattle.rules.specs.Numbers.{most_bytes}
use Rattle.rules.specs.Words.{widest}
use Rattle.rules.specs.Reading.{most_globals}
use Rattle.rules.specs.Form.{and_look, a_header, global_at, bits_in, is_state, Scope}
use Rattle.rules.specs.Lists.{Cell, header_cell, mark_of, slots_of_cell}
use Rattle.rules.specs.Running.{State, next, more, pure, puts, set_to, shape_for, with_packet, bits_of_bytes, fields_from, fill_header, bytes_in, take_header, whole_header, extract_into, change_store}
use Rattle.rules.proofs.Fits.{CellFits, valid_fits, invalid_fits, fill-header}
use Rattle.shape.specs.Directory.{offsets_slot}
use Rattle.program.specs.Stands.{StandsWidths}
use Rattle.program.proofs.Members.{width-at}
use Rattle.store.specs.Mirrors.{most_stored, counter_slot, position_slot, Scene}
use Rattle.store.specs.Places.{AsksHeaderTy, HeaderTyAt, FindsHeaderTy}
use Rattle.store.specs.Changes.{Becomes}
use Rattle.store.specs.Packets.{bits_from, widths_at, AsksWidths, CountsBits, AsksFields, FillsFields, AsksExtract, extract_ends, Extracted, Extracts}
use Rattle.store.proofs.Flat.{look_at}
use Rattle.store.proofs.Bits.{fields-length}
use Rattle.store.proofs.Cells.{start_of, cell-inside, Replaced}
use Rattle.store.proofs.Declaring.{shaped-header, WholeHeader, shaped-whole}
use Rattle.store.proofs.Stored.{CellOf, fields_in}
use Rattle.store.proofs.Changing.{Made, store-becomes}
use Rattle.store.proofs.Marking.{header_at, still-fits}
use Rattle.store.proofs.Scenes.{scene-moved}

-- widths that stand one after the other
widths-are : (nums : List ℕ) (at : ℕ) (ws : List ℕ) → StandsWidths nums at ws → widths_at nums at (length ws) ≡ ws
unfolding StandsWidths widths_at
widths-are nums at [] s = refl
widths-are nums at (w ∷ ws) s =
    rw (drop-cons nums at 0 s.0.holds.inside, s.0.holds.is)
    (ap (λ rest. w ∷ rest) (rw (add-one at) at (widths-are nums (at + 1) ws s.1)))

widths-wide : (nums : List ℕ) (at : ℕ) (ws : List ℕ) → StandsWidths nums at ws → (i : ℕ) → i < length ws
    → get_or nums (at + i) 0 ≤ widest
widths-wide nums at ws s i h =
    let w = width-at nums at ws s i (get_or ws i 0) (look_at ws i h) in
    omega (arith, w.holds.is, w.at_most)

widths-inside : (nums : List ℕ) (at : ℕ) (ws : List ℕ) → StandsWidths nums at ws → 0 < length ws
    → at + length ws ≤ length nums
widths-inside nums at ws s h =
    let w = width-at nums at ws s (length ws - 1) (get_or ws (length ws - 1) 0) (look_at ws (length ws - 1) (omega arith)) in
    omega (arith, w.holds.inside)

-- a header's cell that is filled
record Filled (ns : List ℕ) (c : Cell) : Type 0 where
  is : fill_header ns c ≡ some (header_cell true ns)

filled : {widths : List ℕ} {c : Cell} (ns : List ℕ) → CellFits (a_header widths) c → Filled ns c
unfolding fill_header
filled ns (valid_fits h) = record { is = refl }
filled ns (invalid_fits h) = record { is = refl }

filled-slots : (ns : List ℕ) → slots_of_cell (header_cell true ns) ≡ 1 ∷ ns
unfolding slots_of_cell mark_of
filled-slots ns = refl

-- slots whose first is marked and whose others are filled
fill-replaced : (nums slots slots' : List ℕ) (at count from mark : ℕ) (ns : List ℕ) → mark < length slots
    → FillsFields nums (set slots mark 1) slots' at count from (mark + 1) → length ns ≡ count
    → fields_from (widths_at nums at count) (bits_from nums from) ≡ ns → Replaced slots slots' mark (1 ∷ ns)
fill-replaced nums slots slots' at count from mark ns inside f n e = record {
  same = f.same ∙ length-set slots mark 1;
  inside = here;
  before = λ k h. f.before k (omega arith) ∙ get_or-set_other slots mark k 1 0 (λ q. absurd (omega (arith, q)));
  behind = λ k h. f.behind k (omega arith) ∙ get_or-set_other slots mark k 1 0 (λ q. absurd (omega (arith, q)));
}
  where
    here : (j : ℕ) → j < length (1 ∷ ns) → get_or slots' (mark + j) 0 ≡ get_or (1 ∷ ns) j 0
    here zero h =
        let first : mark + 0 ≡ mark = omega arith in
        rw first (f.before mark (omega arith) ∙ get_or-set_same slots mark 1 0 inside)
    here (suc j) h =
        let next : mark + suc j ≡ mark + 1 + j = omega arith in
        rw next (f.filled j (omega arith) ∙ ap (λ ms. get_or ms j 0) e)

module _ (nums directory ends slots : List ℕ) (g : ℕ) where
  abbrev mark : ℕ
  mark = get_or directory (offsets_slot + g) 0

  abbrev position : ℕ
  position = get_or slots position_slot 0

  -- in whatever state stands there
  module _ (scope : coded.Scope) (frame : List ℕ) (Γ : Scope) (s : State) (widths : List ℕ)
      (h : Scene nums directory ends scope slots frame Γ s) (parsing : is_state Γ.body ≡ true)
      (is : and_look (shape_for Γ g) whole_header ≡ some widths) where
    whole : WholeHeader Γ g widths
    whole = shaped-whole Γ g widths is

    header : CellOf directory s.store g (a_header widths)
    header = header_at nums directory ends scope slots frame g Γ s widths h whole.header

    shaped : global_at Γ.program g ≡ some (a_header widths)
    shaped = shaped-header Γ g widths whole.header

    cell_room : mark + 1 + length widths ≤ most_stored
    cell_room = omega (
      arith,
      header.start,
      cell-inside slots s.store g header.cell header.found h.store,
      fields_in header.fits,
    )

    unread : length s.packet ≡ length nums - position
    unread = ap length (h.packet parsing).is ∙ length-drop position nums

    -- its type stands at an index
    module _ (r : ℕ) (t : FindsHeaderTy nums directory ends g r) where
      typed : HeaderTyAt nums r widths
      typed = t.finds Γ.program h.scopes.end widths h.scopes.program shaped

      are : widths_at nums (r + 1) (get_or nums r 0) ≡ widths
      are = rw typed.count.holds.is (widths-are nums (r + 1) widths typed.stand)

      bytes-are : (bits : ℕ) → CountsBits nums (r + 1) (get_or nums r 0) bits → bits ≡ bits_in widths
      bytes-are bits c = c.is ∙ ap bits_in are

      short : (bits : ℕ) → CountsBits nums (r + 1) (get_or nums r 0) bits → length nums - position < bits / 8
          → Extracted nums directory ends scope slots slots frame g Γ s widths false
      unfolding extract_into extract_ends pure bytes_in
      short bits c l =
          let e : leb (bits_in widths / 8) (length s.packet) ≡ false
          = lt-leb (bits_in widths / 8) (length s.packet) (omega (arith, unread, rw (bytes-are bits c) at l)) in
          record { state = s; is = rw (e, extract_into) refl; scene = h; counter = refl }

      module _ (bits : ℕ) (c : CountsBits nums (r + 1) (get_or nums r 0) bits) (enough : bits / 8 ≤ length nums - position)
          (slots' : List ℕ)
          (f : FillsFields nums (set slots mark 1) slots' (r + 1) (get_or nums r 0) position (mark + 1)) where
        abbrev fields : List ℕ
        fields = fields_from widths (bits_of_bytes s.packet)

        made : Made (fill_header fields) slots slots' (start_of s.store g) header.cell
        made =
            let n : length fields ≡ length widths = fields-length widths (bits_of_bytes s.packet) in
            let are-fields : fields_from (widths_at nums (r + 1) (get_or nums r 0)) (bits_from nums position) ≡ fields
            = rw are (unfold bits_from in rw (h.packet parsing).is) in
            record {
              cell = header_cell true fields;
              is = (filled fields header.fits).is;
              size = rw (filled-slots fields) (omega (arith, n, fields_in header.fits));
              replaced = rw (filled-slots fields, ← header.start)
                  (fill-replaced nums slots slots' (r + 1) (get_or nums r 0) position mark fields
                  (omega (arith, cell_room, h.store.count)) f (n ∙ sym typed.count.holds.is) are-fields);
            }

        becomes : Becomes nums directory ends scope slots slots' frame frame Γ s (change_store (fill_header fields) g s)
        becomes = store-becomes nums directory ends scope slots frame Γ s h g (a_header widths) header
            (fill_header fields) slots' made
            (still-fits nums directory ends scope slots frame g Γ s widths h whole.header (fill_header fields)
            (λ x k. fill-header s.packet k))

        abbrev rest : List ℕ
        rest = drop (bits_in widths / 8) s.packet

        taken : take_header g widths s ≡ some (with_packet becomes.state rest)
        unfolding take_header and_look bytes_in
        taken = rw becomes.is

        long : Extracted nums directory ends scope slots (set slots' position_slot (position + bits / 8)) frame g Γ s
            widths true
        unfolding extract_into extract_ends next more puts set_to pure bytes_in
        long =
            let same : bits ≡ bits_in widths = bytes-are bits c in
            let e : leb (bits_in widths / 8) (length s.packet) ≡ true
            = le-leb (bits_in widths / 8) (length s.packet) (omega (arith, unread, rw same at enough)) in
            let tail : rest ≡ drop (position + bits / 8) nums
            = rw ((h.packet parsing).is, same) (drop-drop (bits_in widths / 8) position nums) in
            record {
              state = with_packet becomes.state rest;
              is = rw (e, extract_into, taken) refl;
              scene = scene-moved nums directory ends scope slots' frame Γ becomes.state (position + bits / 8) rest
                  becomes.scene (record { inside = omega (arith, enough, (h.packet parsing).inside); is = tail });
              counter = get_or-set_other slots' position_slot counter_slot (position + bits / 8) 0
                  (λ q. absurd (omega (arith, q))) ∙ becomes.counter;
            }

  -- what the indices ask
  pub record ExtractRoom (r : ℕ) : Type 0 where
    pub few : length nums ≤ most_bytes
    pub inside : r < length nums
    pub global : g < most_globals
    pub cell : mark + 1 + get_or nums r 0 ≤ most_stored
    pub read : position ≤ length nums

  module _ (a : AsksExtract nums directory ends slots g) where
    pub extract-type : AsksHeaderTy nums directory ends g
    extract-type = record {
      program = a.scope_of.program;
      end = a.scene.scopes.end;
      widths = a.widths;
      stands = a.scene.scopes.program;
      is = shaped a.scope a.frame a.scope_of a.state a.widths a.scene a.parsing a.is;
    }

    module _ (r : ℕ) (t : FindsHeaderTy nums directory ends g r) where
      abbrev found : HeaderTyAt nums r a.widths
      found = typed a.scope a.frame a.scope_of a.state a.widths a.scene a.parsing a.is r t

      pub extract-room : ExtractRoom r
      extract-room = record {
        few = a.scene.scopes.program.numbers;
        inside = found.count.holds.inside;
        global = (header a.scope a.frame a.scope_of a.state a.widths a.scene a.parsing a.is).few;
        cell = rw found.count.holds.is
            (cell_room a.scope a.frame a.scope_of a.state a.widths a.scene a.parsing a.is);
        read = (a.scene.packet a.parsing).inside;
      }

      pub extract-widths : AsksWidths nums (r + 1) (get_or nums r 0)
      extract-widths =
          let n : get_or nums r 0 ≡ length a.widths = found.count.holds.is in
          record {
            few = a.scene.scopes.program.numbers;
            inside = omega
                (arith, n, widths-inside nums (r + 1) a.widths found.stand (omega (arith, found.count.at_least)));
            most = omega (arith, n, found.count.at_most);
            wide = λ i l. widths-wide nums (r + 1) a.widths found.stand i (omega (arith, n));
          }

      module _ (bits : ℕ) (c : CountsBits nums (r + 1) (get_or nums r 0) bits) where
        pub extract-fields : bits / 8 ≤ length nums - position
            → AsksFields nums (set slots mark 1) (r + 1) (get_or nums r 0) position (mark + 1)
        extract-fields enough =
            let k = extract-room in
            let w = (shaped-whole a.scope_of g a.widths a.is).whole in
            let same : bits ≡ bits_in a.widths
            = bytes-are a.scope a.frame a.scope_of a.state a.widths a.scene a.parsing a.is r t
            bits c in
            record {
              widths = extract-widths;
              size = length-set slots mark 1 ∙ a.scene.store.count;
              room = omega (arith, k);
              inside = rw (← c.is) (omega (arith, k, enough, same, w));
            }

      pub extract-short : (bits : ℕ) → CountsBits nums (r + 1) (get_or nums r 0) bits → length nums - position < bits / 8
          → Extracts nums directory ends slots slots g false
      extract-short bits c l = record {
        extracts = λ scope frame Γ s widths h p is. short scope frame Γ s widths h p is r t bits c l;
      }

      pub extract-long : (bits : ℕ) → CountsBits nums (r + 1) (get_or nums r 0) bits → bits / 8 ≤ length nums - position
          → (slots' : List ℕ)
          → FillsFields nums (set slots mark 1) slots' (r + 1) (get_or nums r 0) position (mark + 1)
          → Extracts nums directory ends slots (set slots' position_slot (position + bits / 8)) g true
      extract-long bits c enough slots' f = record {
        extracts = λ scope frame Γ s widths h p is. long scope frame Γ s widths h p is r t bits c enough slots' f;
      }

pub ruleset extractings = (extract-type, extract-widths, extract-fields, extract-short, extract-long)
