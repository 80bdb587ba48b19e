-- The store: a global of each shape, and globals one after the other with their offsets.
use mathlib.Core.Option.{some}
use mathlib.Core.Path.{◌≡◌, refl, sym, ◌∙◌, subst}
use mathlib.Core.List.{List, [], ◌∷◌}
use Prim.Native.Nat.{ℕ, suc, ◌+◌, ◌-◌, ◌^◌, ◌≤◌, ◌<◌}
use native.Mathlib.Omega.{arith}
use native.Mathlib.Nat.{sub-zero}
use native.Mathlib.Numerals.{add-one}
use lib.ListN.{length, get_or, get_elem?, set, drop, drop_of_length-le}
use lib.Dec.{eqb}
use Rattle.rules.specs.Words.{fits_width}
use Rattle.rules.specs.Syntax.{bool, GlobalTy, variable, header, Global, Program}
use Rattle.rules.specs.Reading.{Got, got, bad, and_then, ◌>>=◌, pure}
use Rattle.rules.specs.Form.{and_look, fits, shape_in}
use Rattle.rules.specs.Lists.{Cell, variable_cell, header_cell, passing, read_fields, read_shape, read_cell, read_cells}
use Rattle.rules.proofs.Predicates.{no_member}
use Rattle.shape.specs.Scans.{Scan, Past, Fault}
use Rattle.shape.specs.Scans.{forget, scan_of}
use Rattle.shape.specs.Walks.{Laid, Lays}
use Rattle.program.specs.Codes.{ty_of, header_number}
use Rattle.program.specs.Stands.{StandsHeader, StandsProgram}
use Rattle.program.specs.Looks.{Has, Finds, headers_of, globals_of, GlobalNumber, FoundGlobal, FoundHeader}
use Rattle.program.proofs.Found.{At, member-at}
use Rattle.program.proofs.Members.{drop-member, header-high}
use Rattle.lists.specs.Listing.{shape_size, offsets_from}
use Rattle.lists.specs.Parts.{AsksProgram, Fielded, AsksFields, JudgesFields, JudgesHeader, JudgesCell, AsksCells, lay_offsets, JudgesCells}
use Rattle.lists.proofs.Places.{placed-cell, CellAt}
use Rattle.lists.proofs.Steps.{past-inside, behind-passed, Read, past-read, fault-read, then-fault, lays-bad, alike-made, alike-scan}

-- a header of a type
module _ (nums directory ends : List ℕ) (h at : ℕ) where
  pub header-asks : AsksProgram nums directory ends → h < get_or directory 0 0 → Has headers_of nums directory ends h
  unfolding headers_of
  header-asks k l = record {
    program = k.program;
    end = k.end;
    stands = k.stands;
    inside = rw k.stands.headers.count at l;
  }

  module _ (type : ℕ) (found : Finds headers_of (FoundHeader nums type) nums directory ends h)
      (l : h < get_or directory 0 0)
    where
      type-of : (P : Program) (end : ℕ) → StandsProgram nums directory ends P end → At P.headers h
      type-of P end s = member-at P.headers h (rw s.headers.count at l)

      type-stands : (P : Program) (end : ℕ) (s : StandsProgram nums directory ends P end)
          → StandsHeader nums type (type-of P end s).member
      unfolding headers_of FoundHeader
      type-stands P end s = found.finds P end (type-of P end s).member s (type-of P end s).is

      fielded-by : (P : Program) (end : ℕ) (s : StandsProgram nums directory ends P end)
          → Fielded nums (type + 1) (get_or nums type 0) (type-of P end s).member.widths
      fielded-by P end s = record {
        stands = (type-stands P end s).widths;
        counted = (type-stands P end s).count.holds.is;
      }

      pub header-inside : AsksProgram nums directory ends → type < length nums
      header-inside k = (type-stands k.program k.end k.stands).count.holds.inside

      pub header-next : AsksProgram nums directory ends → type + 1 < 2 ^ 64
      header-next k = omega (arith, header-inside k, k.stands.numbers)

      pub header-fields : AsksProgram nums directory ends → AsksFields nums (type + 1) (get_or nums type 0)
      header-fields k = record {
        widths = (type-of k.program k.end k.stands).member.widths;
        fielded = fielded-by k.program k.end k.stands;
        numbers = k.stands.numbers;
      }

      module _ (a : Scan) (q : a ≡ scan_of (passing 11 (fits_width 1)) nums at) where
        mark-scan : a ≡ scan_of (passing 11 (fits bool)) nums at
        unfolding fits fits_width
        mark-scan = q

        pub header-past : (n : ℕ) (r : Scan) → a ≡ Past n
            → JudgesFields nums (type + 1) (get_or nums at 0) (get_or nums type 0) n r
            → JudgesHeader nums directory ends h at r
        unfolding shape_in and_look read_cell read_shape scan_of
        header-past n r p g = record {
          judged = λ P end s.
              rw (type-of P end s).is
              (alike-scan nums n r
              (alike-made (read_fields (eqb (get_or nums at 0) 1) (type-of P end s).member.widths) _)
              (g.judged (type-of P end s).member.widths (fielded-by P end s))
              ∙ sym (behind-passed 11 (fits bool) nums at
              (λ mark. read_fields (eqb mark 1) (type-of P end s).member.widths >>= λ ns.
              pure (header_cell (eqb mark 1) ns)) a n mark-scan p));
        }

        pub header-fault : (f i : ℕ) → a ≡ Fault f i → JudgesHeader nums directory ends h at (Fault f i)
        unfolding shape_in and_look read_cell read_shape scan_of
        header-fault f i p = record {
          judged = λ P end s.
              rw (type-of P end s).is (then-fault (passing 11 (fits bool)) _ nums at f i a mark-scan p);
        }

  pub header-none : get_or directory 0 0 ≤ h → JudgesHeader nums directory ends h at (Fault 11 at)
  unfolding shape_in and_look read_cell scan_of forget
  header-none l = record {
    judged = λ P end s. rw (no_member P.headers h (rw s.headers.count at l));
  }

pub ruleset headers = (
  past-inside,
  header-asks,
  header-inside,
  header-next,
  header-fields,
  header-past,
  header-fault,
  header-none,
)

-- a global
module _ (nums directory ends : List ℕ) (g at ty : ℕ) where
  pub cell-asks : Has globals_of nums directory ends g → AsksProgram nums directory ends
  cell-asks h = record { program = h.program; end = h.end; stands = h.stands }

  module _ (found : Finds globals_of (FoundGlobal ty) nums directory ends g) where
    type-is : (P : Program) (end : ℕ) (x : Global) → StandsProgram nums directory ends P end
        → get_elem? P.globals g ≡ some x → GlobalNumber ty x.ty
    unfolding globals_of FoundGlobal
    type-is P end x s e = found.finds P end x s e

    pub cell-high : Has globals_of nums directory ends g → 64 < ty → 128 ≤ ty
    unfolding globals_of
    cell-high h l =
        let m : At h.program.globals g = member-at h.program.globals g h.inside in
        header-high ty m.member.ty l (type-is h.program h.end m.member h.stands m.is)

    pub cell-variable : (r : Scan) → ty ≤ 64 → r ≡ scan_of (passing 11 (fits (ty_of ty))) nums at
        → JudgesCell nums directory ends g at r
    unfolding GlobalNumber header_number shape_in read_cell read_shape scan_of
    cell-variable r l q = record { judged = λ P end x s e. go P x.ty (type-is P end x s e) }
      where
        go : (P : Program) (x : GlobalTy) → GlobalNumber ty x → r ≡ scan_of (read_cell (shape_in P x)) nums at
        go P (variable t) k =
            alike-scan nums at r (alike-made (passing 11 (fits t)) (λ n. variable_cell n)) (rw k.1 at q)
        go P (header n) k = absurd (omega (arith, k.0))

    pub cell-header : (r : Scan) → 64 < ty → JudgesHeader nums directory ends (ty - 128) at r
        → JudgesCell nums directory ends g at r
    unfolding GlobalNumber header_number
    cell-header r l q = record { judged = λ P end x s e. go P end s x.ty (type-is P end x s e) }
      where
        go : (P : Program) (end : ℕ) → StandsProgram nums directory ends P end → (x : GlobalTy) → GlobalNumber ty x
            → r ≡ scan_of (read_cell (shape_in P x)) nums at
        go P end s (variable t) k = absurd (omega (arith, k.0))
        go P end s (header n) k =
            let e : ty - 128 ≡ n = omega (arith, k.0) in
            rw e at (q.judged P end s)

pub ruleset globals = (cell-asks, cell-high, cell-variable, cell-header)

-- globals one after the other
module _ (nums directory ends : List ℕ) (g count store at : ℕ) where
  pub cells-slot : AsksCells nums directory ends g count store at → g < 33
  cells-slot h = omega (arith, h.counted, h.stands.globals.few)

  pub cells-later : AsksCells nums directory ends g count store at → store ≤ at
  cells-later h = h.later

  member_of : (P : Program) → g + count ≡ length P.globals → (count ≡ 0 → ⊥) → At P.globals g
  member_of P e more = member-at P.globals g (omega (arith, e, more))

  pub cells-asks : AsksCells nums directory ends g count store at → (count ≡ 0 → ⊥)
      → Has globals_of nums directory ends g
  unfolding globals_of
  cells-asks h more = record {
    program = h.program;
    end = h.end;
    stands = h.stands;
    inside = omega (arith, h.counted, more);
  }

  pub cells-none : (found : List ℕ) → count ≡ 0
      → JudgesCells nums directory ends g count store at found (set found g (at - store)) (Past at)
  unfolding read_cells pure scan_of forget Laid lay_offsets offsets_from
  cells-none found e = record {
    judged = λ P end s k.
        let l : length P.globals ≤ g = omega (arith, e, k) in
        let none_left : drop g P.globals ≡ [] = drop_of_length-le P.globals l in
        record { scan = rw none_left; laid = rw none_left (rw none_left refl) };
  }

  module _ (a : Scan) (more : count ≡ 0 → ⊥) (j : JudgesCell nums directory ends g at a) where
    read-cell : (P : Program) (end n : ℕ) → StandsProgram nums directory ends P end → (m : At P.globals g)
        → a ≡ Past n
        → Read (CellAt (shape_in P m.member.ty)) (read_cell (shape_in P m.member.ty)) nums at n
    read-cell P end n s m p = past-read nums at n a (placed-cell (shape_in P m.member.ty))
        (j.judged P end m.member s m.is) p

    pub cells_left : (n : ℕ) → AsksCells nums directory ends g count store at → a ≡ Past n
        → AsksCells nums directory ends (g + 1) (count - 1) store n
    cells_left n h p = record {
      program = h.program;
      end = h.end;
      stands = h.stands;
      counted = omega (arith, h.counted, more);
      later = omega (
        arith,
        h.later,
        (read-cell h.program h.end n h.stands (member_of h.program h.counted more) p).stands.after,
      );
    }

    -- a global, and those behind it
    with-first : (P : Program) (n : ℕ) (found filled : List ℕ) (r : Scan) (x : Global)
        → drop g P.globals ≡ x ∷ drop (suc g) P.globals → store ≤ at
        → Read (CellAt (shape_in P x.ty)) (read_cell (shape_in P x.ty)) nums at n
        → Lays (read_cells P (drop (suc g) P.globals)) (lay_offsets P (suc g) (n - store)) nums n
        (set found g (at - store)) filled r
        → Lays (read_cells P (drop g P.globals)) (lay_offsets P g (at - store)) nums at found filled r
    unfolding read_cells pure scan_of ◌>>=◌ and_then Laid lay_offsets offsets_from
    with-first P n found filled r x e l d w = record {
      scan = rw (e, d.gave)
          (w.scan ∙ (alike-made (read_cells P (drop (suc g) P.globals)) _).alike (drop n nums) n);
      laid = rw (e, d.gave) (go (read_cells P (drop (suc g) P.globals) (drop n nums) n) w.laid);
    }
      where
        go : (y : Got (List Cell)) → Laid y (lay_offsets P (suc g) (n - store)) (set found g (at - store)) filled
            → Laid (and_then y (λ rest. pure (d.value ∷ rest))) (lay_offsets P g (at - store)) found filled
        go (got cs left next) k =
            let o : n - store ≡ at - store + shape_size (shape_in P x.ty) = omega (arith, d.stands.after, l) in
            rw e (rw o at k)
        go (bad fault index) k = tt

    pub cells-past : (n : ℕ) (found filled : List ℕ) (r : Scan) → AsksCells nums directory ends g count store at
        → a ≡ Past n
        → JudgesCells nums directory ends (g + 1) (count - 1) store n (set found g (at - store)) filled r
        → JudgesCells nums directory ends g count store at found filled r
    cells-past n found filled r h p k = record {
      judged = λ P end s q.
          let m : At P.globals g = member_of P q more in
          with-first P n found filled r m.member (drop-member P.globals g m.member m.is) h.later
          (read-cell P end n s m p)
          (rw (add-one g) at (k.judged P end s (omega (arith, q, more))));
    }

    pub cells-fault : (f i : ℕ) (found filled : List ℕ) → a ≡ Fault f i
        → JudgesCells nums directory ends g count store at found filled (Fault f i)
    unfolding read_cells ◌>>=◌ and_then
    cells-fault f i found filled p = record {
      judged = λ P end s q.
          let m : At P.globals g = member_of P q more in
          lays-bad _ _ nums at f i found filled
          (rw (
            drop-member P.globals g m.member m.is,
            fault-read (read_cell (shape_in P m.member.ty)) nums at f i a (j.judged P end m.member s m.is) p,
          ));
    }

-- so many globals, of which some are done: what the rest is judged to be and leaves, all are and do
pub record CellsLeft (nums directory ends : List ℕ) (count store : ℕ) (found : List ℕ) (done next : ℕ) (laid : List ℕ)
    : Type 0 where
  pub within : done ≤ count
  pub asks : AsksCells nums directory ends done (count - done) store next
  pub rest : (filled : List ℕ) (r : Scan)
      → JudgesCells nums directory ends done (count - done) store next laid filled r
      → JudgesCells nums directory ends 0 count store store found filled r

pub stores-first : (nums directory ends : List ℕ) (count store : ℕ) (found : List ℕ)
    → AsksCells nums directory ends 0 count store store
    → CellsLeft nums directory ends count store found 0 store found
stores-first nums directory ends count store found h = record {
  within = omega arith;
  asks = rw sub-zero h;
  rest = λ filled r k. rw sub-zero at k;
}

module _ (nums directory ends : List ℕ) (count store : ℕ) (found : List ℕ) (done next : ℕ) (laid : List ℕ)
    (w : CellsLeft nums directory ends count store found done next laid)
  where
    pub stores-later : store ≤ next
    stores-later = cells-later nums directory ends done (count - done) store next w.asks

    pub stores-slot : done < 33
    stores-slot = cells-slot nums directory ends done (count - done) store next w.asks

    module _ (m : done < count) where
      more : count - done ≡ 0 → ⊥
      more e = omega (arith, e)

      fewer : count - done - 1 ≡ count - (done + 1)
      fewer = omega arith

      pub stores-asks : Has globals_of nums directory ends done
      stores-asks = cells-asks nums directory ends done (count - done) store next w.asks more

      module _ (a : Scan) (j : JudgesCell nums directory ends done next a) where
        pub stores-past : (n : ℕ) → a ≡ Past n
            → CellsLeft nums directory ends count store found (done + 1) n (set laid done (next - store))
        stores-past n p = record {
          within = omega arith;
          asks = rw (← fewer)
              (cells_left nums directory ends done (count - done) store next a more j n w.asks p);
          rest = λ filled r k.
              w.rest filled r
              (cells-past nums directory ends done (count - done) store next a more j n laid filled r w.asks p
              (rw (← fewer) at k));
        }

        pub stores-fault : (f i : ℕ) (filled : List ℕ) → a ≡ Fault f i
            → JudgesCells nums directory ends 0 count store store found filled (Fault f i)
        stores-fault f i filled p = w.rest filled (Fault f i)
            (cells-fault nums directory ends done (count - done) store next a more j f i laid filled p)

    pub stores-none : count ≤ done
        → JudgesCells nums directory ends 0 count store store found (set laid count (next - store)) (Past next)
    stores-none m =
        let e : done ≡ count = omega (arith, w.within) in
        w.rest (set laid count (next - store)) (Past next)
        (subst (λ (k : ℕ). JudgesCells nums directory ends done (count - done) store next laid (set laid k (next - store))
        (Past next)) e (cells-none nums directory ends done (count - done) store next laid (omega arith)))

pub ruleset cells = (
  stores-first,
  stores-later,
  stores-slot,
  stores-asks,
  stores-past,
  stores-fault,
  stores-none,
)
