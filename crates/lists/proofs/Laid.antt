-- What the slots hold where the lists are fine: each entry stands where its slot says, and each global at its offset.
use mathlib.Core.Bool.{true}
use mathlib.Core.Path.{◌≡◌, refl, ◌∙◌, ap}
use mathlib.Core.List.{List, [], ◌∷◌}
use Prim.Native.Nat.{ℕ, suc, ◌+◌, ◌≤◌, ◌<◌}
use native.Mathlib.Omega.{arith}
use lib.ListN.{length, get_or, drop, get_or-append}
use lib.Seq.{sets, sets-eq}
use Rattle.rules.specs.Syntax.{Global, Program}
use Rattle.rules.specs.Reading.{Got, got, bad, and_then, ◌>>=◌, pure, most_globals}
use Rattle.rules.specs.Lists.{Entry, Cell, most_entries, slots_of, read_entries, read_store, read_packet, nothing_left}
use Rattle.program.specs.Stands.{StandsProgram}
use Rattle.program.proofs.Found.{member-in}
use Rattle.rules.specs.Form.{shape_in}
use Rattle.lists.specs.Listing.{Fine, entry_size, shape_size, Lists, read_last, listing, starts_from, behind_entries, offsets_from, listed_of, entries_left, offsets_left, ListsJudged}
use Rattle.lists.specs.Stands.{ListsStand}
use Rattle.lists.proofs.Places.{PlacedAt, ListsAt, StandCells, no_cell, a-cell, placed-listing, entry-stands, cell-stands, last-offset, store-stands}

-- how many slots there are
starts-length : (at : ℕ) (es : List Entry) → length (starts_from at es) ≡ length es
unfolding starts_from
starts-length at [] = refl
starts-length at (e ∷ es) = ap suc (starts-length (at + entry_size e) es)

offsets-length : (P : Program) (offset : ℕ) (gs : List Global) → length (offsets_from P offset gs) ≡ suc (length gs)
unfolding offsets_from
offsets-length P offset [] = refl
offsets-length P offset (g ∷ gs) = ap suc (offsets-length P (offset + shape_size (shape_in P g.ty)) gs)

cells-counted : {P : Program} {nums : List ℕ} {at : ℕ} {gs : List Global} {cs : List Cell} → StandCells P nums at gs cs
    → length cs ≡ length gs
cells-counted no_cell = refl
cells-counted (a-cell h hs) = ap suc (cells-counted hs)

-- what was laid from the first slot on
laid_in : (slots vs : List ℕ) (i : ℕ) → length vs ≤ length slots → i < length vs
    → get_or (sets slots 0 vs) i 0 ≡ get_or vs i 0
laid_in slots vs i h l = ap (λ (xs : List ℕ). get_or xs i 0) (sets-eq vs slots 0 (omega arith))
    ∙ get_or-append vs (drop (0 + length vs) slots) 0 i l

-- the slots tell where the lists of a program stand
pub lists-stand : (nums directory ends entries entries' offsets offsets' : List ℕ) (store size : ℕ) (P : Program)
    (end : ℕ) → ListsJudged P end nums entries entries' offsets offsets' (Fine store size)
    → length entries ≡ suc most_entries → length offsets ≡ suc most_globals → StandsProgram nums directory ends P end
    → ListsStand P end nums entries' offsets' store size
unfolding PlacedAt listed_of entries_left offsets_left
lists-stand nums directory ends entries entries' offsets offsets' store size P end k room space s =
    go (listing P (drop end nums) end) refl ((placed-listing P).placed nums end) k.answer k.entries_are
    k.offsets_are
  where
    go : (x : Got Lists) → listing P (drop end nums) end ≡ x → PlacedAt (ListsAt P) nums end x
        → Fine store size ≡ listed_of end x → entries' ≡ entries_left end x entries → offsets' ≡ offsets_left P x offsets
        → ListsStand P end nums entries' offsets' store size
    go (bad number index) e p a b c = let z : ◌≡◌ {A = ℕ} 0 1 = cc in absurd (omega arith)
    go (got lists left next) e p a b c =
        let es : List Entry = lists.entries in
        let cs : List Cell = lists.cells in
        let m : store ≡ behind_entries (suc end) es = cc in
        let n : size ≡ length (slots_of cs) = cc in
        let f : (i : ℕ) → i ≤ length es → get_or entries' i 0 ≡ get_or (length es ∷ starts_from (suc end) es) i 0
        = λ i l. rw b (laid_in entries (length es ∷ starts_from (suc end) es) i
        (omega (arith, starts-length (suc end) es, p.1.few, room))
        (omega (arith, starts-length (suc end) es, l))) in
        let o : (g : ℕ) → g ≤ length P.globals → get_or offsets' g 0 ≡ get_or (offsets_from P 0 P.globals) g 0
        = λ g l. rw c (laid_in offsets (offsets_from P 0 P.globals) g
        (omega (arith, offsets-length P 0 P.globals, s.globals.few, space))
        (omega (arith, offsets-length P 0 P.globals, l))) in
        let stand : StandCells P nums store P.globals cs = rw m p.1.cells in
        record {
          entry_list = es;
          cells = cs;
          packet = lists.packet;
          left = left;
          next = next;
          read = e;
          few = p.1.few;
          count = f 0 (omega arith);
          entry = λ i x q. rw (f (suc i) (member-in es i x q))
              (entry-stands P nums (suc end) es p.1.entries i x q);
          store_is = m;
          size_is = n;
          stands = store-stands stand;
          offset = o;
          cell = λ g x q.
              rw (o g (omega (arith, member-in cs g x q, cells-counted stand)))
              (cell-stands 0 store (omega arith) stand g x q);
          last = omega (arith, o (length P.globals) (omega arith), last-offset 0 stand, n);
          packet_stands = λ t. rw (m, n) (p.1.parsed t);
          no_packet = p.1.unparsed;
        }

-- the lists as the judge reads them, whatever is made of them
pub listing-made : {A : Type 0} (P : Program) (make : List Entry → List Cell → List ℕ → A) (left : List ℕ) (at : ℕ)
    → (read_entries true P >>= λ es. read_store P >>= λ cells. read_packet P >>= λ packet. nothing_left >>= λ ended.
    pure (make es cells packet)) left at
    ≡ (listing P >>= λ lists. pure (make lists.entries lists.cells lists.packet)) left at
unfolding listing read_last ◌>>=◌ and_then pure
listing-made {A} P make left at = first (read_entries true P left at)
  where
    all : Got Lists → Got A
    all x = and_then x (λ lists. pure (make lists.entries lists.cells lists.packet))

    made : List Entry → List Cell → Got (List ℕ) → Got Lists
    made es cells x = and_then x (λ packet. pure (record { entries = es; cells = cells; packet = packet }))

    fourth : (es : List Entry) (cells : List Cell) (packet : List ℕ) (x : Got (Unit {0}))
        → and_then x (λ ended. pure (make es cells packet))
        ≡ all (made es cells (and_then x (λ ended. pure packet)))
    fourth es cells packet (got ended left next) = refl
    fourth es cells packet (bad number index) = refl

    third : (es : List Entry) (cells : List Cell) (x : Got (List ℕ))
        → and_then x (λ packet. nothing_left >>= λ ended. pure (make es cells packet))
        ≡ all (made es cells (and_then x (λ packet. nothing_left >>= λ ended. pure packet)))
    third es cells (got packet left next) = fourth es cells packet (nothing_left left next)
    third es cells (bad number index) = refl

    second : (es : List Entry) (x : Got (List Cell))
        → and_then x (λ cells. read_packet P >>= λ packet. nothing_left >>= λ ended. pure (make es cells packet))
        ≡ all (and_then x (λ cells. read_last P >>= λ packet.
        pure (record { entries = es; cells = cells; packet = packet })))
    second es (got cells left next) = third es cells (read_packet P left next)
    second es (bad number index) = refl

    first : (x : Got (List Entry))
        → and_then x (λ es. read_store P >>= λ cells. read_packet P >>= λ packet. nothing_left >>= λ ended.
        pure (make es cells packet))
        ≡ all (and_then x (λ es. read_store P >>= λ cells. read_last P >>= λ packet.
        pure (record { entries = es; cells = cells; packet = packet })))
    first (got es left next) = second es (read_store P left next)
    first (bad number index) = refl
