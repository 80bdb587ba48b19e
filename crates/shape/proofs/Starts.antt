-- The directory: where the members of lists begin, and that what is laid into the slots is what the tree tells.
use mathlib.Core.Path.{◌≡◌, refl, sym, ap, ◌∙◌}
use mathlib.Core.List.{List, [], ◌∷◌, map}
use Prim.Native.Nat.{ℕ, zero, suc, ◌-◌}
use native.Mathlib.Omega.{arith}
use lib.ListN.{length, drop, set, length-map}
use lib.Seq.{sets}
use Rattle.rules.specs.Syntax.{Stmt, HeaderTy, Global}
use Rattle.rules.specs.Reading.{Got, got, bad, Reader, and_then, ◌>>=◌, pure, between, repeat, list_of, deepest, most_headers, most_globals, most_callables, most_tables, most_states}
use Rattle.rules.specs.Reading.{read_stmt, read_header, read_global, read_callable, read_table, read_state}
use Rattle.rules.proofs.Readers.{Kept, Keeps, keeps-between, keeps-list, keeps-header, keeps-global, keeps-callable, keeps-table, keeps-state, Given, Starts, starts-header, starts-global, starts-callable, starts-table, starts-state}
use Rattle.std.proofs.Common.{MutBor}
use Rattle.std.specs.Prelude.{Result}
use Rattle.rules.specs.declared.Fault as rules
use Rattle.shape.specs.Scans.{told, forget, scan_of, Scan, Past, Fault}
use Rattle.shape.specs.Leads.{valued, value_of}
use Rattle.shape.specs.Parts.{list_scan}
use Rattle.shape.specs.Directory.{headers_slot, globals_slot, callables_slot, tables_slot, body_slot, end_slot, states_slot}
use Rattle.shape.specs.Directory.{stmt_at, listed, declared, defined, stated}
use Rattle.shape.specs.Ends.{first_at, lay_all, callable_at, lay_callable, table_at, lay_table, state_at, lay_state}
use Rattle.shape.specs.Walks.{starts_after, starts, laid_list, WalkedList, Laid, Lays, no_ends, laid_got, laid_by, ends_after, LaysPart, parts_ends, list_ends, Called, TellsPart, WalksList, ends_defined}
use Rattle.shape.specs.Walks.{read_declared, lay_declared, read_defined, lay_defined, lay_states, lay_body}
use Rattle.shape.proofs.Laws.{scans-self}
use Rattle.shape.proofs.Stmts.{starts-stmt}
use Rattle.shape.proofs.Lays.{lays-then, lays-fault, lays-scan, lays-like, lays-same, BegunAt, Begins, begins-repeat, begins-list, lays-next}
use Rattle.shape.proofs.Parts.{scans-items}
use Rattle.shape.proofs.Walking.{scan-got}

-- the beginnings that a walk finds are those that the members carry
module _ {A : Type 0} {one : Reader A} {start : A → ℕ} (nums : List ℕ) (h : Keeps one) (s : Starts start one) where
  Repeated : ℕ → ℕ → Got (List A) → Type 0
  Repeated count at (got xs left next) = (starts (scan_of one nums) count at ≡ map start xs) × (length xs ≡ count)
  Repeated count at (bad fault index) = Unit

  repeated-suc : (count at : ℕ) (x : Got A) → one (drop at nums) at ≡ x → Kept nums at x → Given (λ a. start a ≡ at) x
      → ((n : ℕ) → Repeated count n (repeat count one (drop n nums) n))
      → Repeated (suc count) at (and_then x (λ a. repeat count one >>= λ rest. pure (a ∷ rest)))
  unfolding Repeated Kept Given and_then ◌>>=◌ pure starts starts_after
  repeated-suc count at (bad fault index) e k g ih = tt
  repeated-suc count at (got a left n) e k g ih = rw k.rest (go (repeat count one (drop n nums) n) (ih n))
    where
      go : (y : Got (List A)) → Repeated count n y → Repeated (suc count) at (and_then y (λ rest. pure (a ∷ rest)))
      go (bad fault index) r = tt
      go (got xs rest next) r = (rw (scan-got one nums at n a left e, g, r.0), ap suc r.1)

  repeated : (count at : ℕ) → Repeated count at (repeat count one (drop at nums) at)
  unfolding Repeated repeat pure ◌>>=◌ starts
  repeated zero at = (refl, refl)
  repeated (suc count) at =
      repeated-suc count at (one (drop at nums) at) refl (h.kept nums at) (s.started (drop at nums) at)
      (repeated count)

  -- a list of them, laid by the walk as its tree tells
  pub lays-list : (least most at slot : ℕ) (found filled : List ℕ) (r : Scan)
      → WalkedList (scan_of one nums) least most nums at slot found filled r
      → scan_of (list_of least most one) nums at ≡ list_scan (scan_of one nums) least most nums at
      → Lays (list_of least most one) (λ xs next slots. listed slots slot (map start xs)) nums at found filled r
  unfolding list_of value_of valued laid_list Laid Kept Repeated and_then ◌>>=◌ listed
  lays-list least most at slot found filled r w e = record {
    scan = w.scan ∙ sym e;
    laid = go (between least most (drop at nums) at) ((keeps-between least most).kept nums at) w.laid;
  }
    where
      lay : List A → ℕ → List ℕ → List ℕ
      lay xs next slots = listed slots slot (map start xs)

      counted : (n next : ℕ) (y : Got (List A)) → Repeated n next y
          → filled ≡ sets found slot (n ∷ starts (scan_of one nums) n next) → Laid y lay found filled
      counted n next (bad fault index) d l = tt
      counted n next (got xs left last) d l = rw (length-map xs start, d.1, ← d.0) l

      go : (x : Got ℕ) → Kept nums at x → filled ≡ laid_list (scan_of one nums) slot found (valued x)
          → Laid (and_then x (λ n. repeat n one)) lay found filled
      go (bad fault index) k l = tt
      go (got n left next) k l = rw k.rest (counted n next (repeat n one (drop next nums) next) (repeated n next) l)

-- the header types and globals, the callables and tables, the states
list-scans : {A : Type 0} (one : Reader A) (nums : List ℕ) (least most at : ℕ) → Keeps one
    → scan_of (list_of least most one) nums at ≡ list_scan (scan_of one nums) least most nums at
list-scans one nums least most at h = (scans-items least most h (scans-self one nums)).scan at

module _ (version : ℕ) (nums : List ℕ) (at : ℕ) (found mid : List ℕ) (a : Scan) where
  pub headers-lay : WalkedList (scan_of (read_header version) nums) 0 most_headers nums at headers_slot found mid a
      → Lays (list_of 0 most_headers (read_header version)) (λ xs next slots. listed slots headers_slot
      (map (λ h. h.at) xs)) nums at found mid a
  headers-lay w =
      lays-list nums (keeps-header version) (starts-header version) 0 most_headers at headers_slot found mid a w
      (list-scans _ nums 0 most_headers at (keeps-header version))

  pub globals-lay : WalkedList (scan_of (read_global version) nums) 0 most_globals nums at globals_slot found mid a
      → Lays (list_of 0 most_globals (read_global version)) (λ xs next slots. listed slots globals_slot
      (map (λ g. g.at) xs)) nums at found mid a
  globals-lay w =
      lays-list nums (keeps-global version) (starts-global version) 0 most_globals at globals_slot found mid a w
      (list-scans _ nums 0 most_globals at (keeps-global version))

  pub callables-lay : WalkedList (scan_of (read_callable version) nums) 0 most_callables nums at callables_slot found mid a
      → Lays (list_of 0 most_callables (read_callable version))
      (λ xs next slots. listed slots callables_slot (map (λ c. c.at) xs)) nums at found mid a
  callables-lay w =
      lays-list nums (keeps-callable version) (starts-callable version) 0 most_callables at callables_slot found mid a w
      (list-scans _ nums 0 most_callables at (keeps-callable version))

  pub tables-lay : WalkedList (scan_of (read_table version) nums) 0 most_tables nums at tables_slot found mid a
      → Lays (list_of 0 most_tables (read_table version)) (λ xs next slots. listed slots tables_slot
      (map (λ t. t.at) xs)) nums at found mid a
  tables-lay w =
      lays-list nums (keeps-table version) (starts-table version) 0 most_tables at tables_slot found mid a w
      (list-scans _ nums 0 most_tables at (keeps-table version))

  pub states-lay : WalkedList (scan_of (read_state version) nums) 1 most_states nums at states_slot found mid a
      → Lays (list_of 1 most_states (read_state version)) lay_states nums at found mid a
  unfolding lay_states stated
  states-lay w =
      lays-list nums (keeps-state version) (starts-state version) 1 most_states at states_slot found mid a w
      (list-scans _ nums 1 most_states at (keeps-state version))

-- and into the ends
module _ {A : Type 0} {one : Reader A} (nums : List ℕ) (h : Keeps one) (start : A → ℕ) (s : Starts start one)
    (lay : A → ℕ → List ℕ → List ℕ) where
  abbrev lay_one : ℕ → List ℕ → List ℕ
  lay_one = laid_by one lay nums

  more-ends : (count at : ℕ) (found filled : List ℕ) (x : Got A) → one (drop at nums) at ≡ x → Kept nums at x
      → ((n : ℕ) (mid : List ℕ) → parts_ends (scan_of one nums) lay_one count n mid filled
      → Laid (repeat count one (drop n nums) n) (lay_all start lay) mid filled)
      → ends_after (forget x) (λ next. parts_ends (scan_of one nums) lay_one count next (laid_got x lay found) filled)
      → Laid (and_then x (λ a. repeat count one >>= λ rest. pure (a ∷ rest))) (lay_all start lay) found filled
  unfolding ends_after laid_got forget Laid Kept and_then ◌>>=◌ pure lay_all BegunAt
  more-ends count at found filled (bad fault index) e k ih l = tt
  more-ends count at found filled (got a left n) e k ih l =
      rw k.rest (go (repeat count one (drop n nums) n) ((begins-repeat count s).begun (drop n nums) n)
      (ih n (lay a n found) l))
    where
      go : (y : Got (List A)) → BegunAt (first_at start) n y → Laid y (lay_all start lay) (lay a n found) filled
          → Laid (and_then y (λ rest. pure (a ∷ rest))) (lay_all start lay) found filled
      go (got rest u end) b m = m ∙ rw b
      go (bad fault index) b m = tt

  all-ends : (count at : ℕ) (found filled : List ℕ) → parts_ends (scan_of one nums) lay_one count at found filled
      → Laid (repeat count one (drop at nums) at) (lay_all start lay) found filled
  unfolding parts_ends repeat pure Laid laid_by lay_all scan_of ◌>>=◌ and_then
  all-ends zero at found filled e = e
  all-ends (suc count) at found filled l =
      more-ends count at found filled (one (drop at nums) at) refl (h.kept nums at)
      (λ n mid m. all-ends count n mid filled m) l

  list-ends-lay : (least most at : ℕ) (found filled : List ℕ)
      → list_ends (scan_of one nums) lay_one (value_of least most nums at) found filled
      → Laid (list_of least most one (drop at nums) at) (lay_all start lay) found filled
  unfolding list_of value_of valued list_ends Laid Kept and_then ◌>>=◌
  list-ends-lay least most at found filled l =
      go (between least most (drop at nums) at) ((keeps-between least most).kept nums at) l
    where
      go : (x : Got ℕ) → Kept nums at x → list_ends (scan_of one nums) lay_one (valued x) found filled
          → Laid (and_then x (λ n. repeat n one)) (lay_all start lay) found filled
      go (bad fault index) k m = tt
      go (got n left next) k m = rw k.rest (all-ends n next found filled m)

lay-nothing : {A : Type 0} (start : A → ℕ) (xs : List A) (end : ℕ) (slots : List ℕ)
    → lay_all start no_ends xs end slots ≡ no_ends xs end slots
unfolding lay_all no_ends
lay-nothing start [] end slots = refl
lay-nothing start (x ∷ xs) end slots = lay-nothing start xs end slots

pub starts-tables : (version : ℕ) → Starts table_at (read_table version)
unfolding table_at
starts-tables version = starts-table version

pub starts-states : (version : ℕ) → Starts state_at (read_state version)
unfolding state_at
starts-states version = starts-state version

-- what a reader scans and lays at an index
tells-part : {A : Type 0} {read : Reader A} {lay : A → ℕ → List ℕ → List ℕ} {nums : List ℕ} {at : ℕ}
    {found filled : List ℕ} {r : Scan}
    → Lays read lay nums at found filled r → LaysPart (scan_of read nums) (laid_by read lay nums) at found filled r
unfolding scan_of forget Laid laid_by laid_got ends_after
tells-part {A} {read} {lay} {nums} {at} {found} {filled} {r} w =
    record { scan = w.scan; laid = rw w.scan (go (read (drop at nums) at) w.laid) }
  where
    go : (x : Got A) → Laid x lay found filled → ends_after (forget x) (λ next. filled ≡ laid_got x lay found)
    go (got a left next) l = l
    go (bad fault index) l = tt

-- what is called for each part, where it tells what a reader does
pub reads-parts : {A : Type 0} {post : Called} (read : Reader A) (lay : A → ℕ → List ℕ → List ℕ) (nums : List ℕ)
    → ((at : ℕ) (ends ends' : MutBor (List ℕ)) (r : Result ℕ rules.Fault) → post at ends r ends'
    → Lays read lay nums at ends.now ends'.now (told r))
    → TellsPart post (scan_of read nums) (laid_by read lay nums)
reads-parts read lay nums h = record { tells = λ at ends ends' r p. tells-part (h at ends ends' r p) }

pub scans-parts : {A : Type 0} {post : Called} (read : Reader A) (nums : List ℕ)
    → ((at : ℕ) (ends ends' : MutBor (List ℕ)) (r : Result ℕ rules.Fault) → post at ends r ends'
    → (told r ≡ scan_of read nums at) × (ends'.now ≡ ends.now))
    → TellsPart post (scan_of read nums) (laid_by read no_ends nums)
scans-parts read nums h =
    reads-parts read no_ends nums λ at ends ends' r p.
    let e : (told r ≡ scan_of read nums at) × (ends'.now ≡ ends.now) = h at ends ends' r p in
    rw e.1 (lays-scan ends.now e.0)

module _ (version : ℕ) (nums : List ℕ) (at : ℕ) (found filled : List ℕ) (slots slots₂ : List ℕ) (r : Scan) where
  pub header-ends : WalkedList (scan_of (read_header version) nums) 0 most_headers nums at headers_slot slots slots₂ r
      → list_ends (scan_of (read_header version) nums) (laid_by (read_header version) no_ends nums)
      (value_of 0 most_headers nums at) found filled
      → Lays (list_of 0 most_headers (read_header version)) no_ends nums at found filled r
  header-ends w l = lays-like (lay-nothing (λ (h : HeaderTy). h.at)) (record {
    scan = w.scan ∙ sym (list-scans _ nums 0 most_headers at (keeps-header version));
    laid = list-ends-lay nums (keeps-header version) (λ h. h.at) (starts-header version)
        no_ends 0 most_headers at found filled l;
  })

  pub global-ends : WalkedList (scan_of (read_global version) nums) 0 most_globals nums at globals_slot slots slots₂ r
      → list_ends (scan_of (read_global version) nums) (laid_by (read_global version) no_ends nums)
      (value_of 0 most_globals nums at) found filled
      → Lays (list_of 0 most_globals (read_global version)) no_ends nums at found filled r
  global-ends w l = lays-like (lay-nothing (λ (g : Global). g.at)) (record {
    scan = w.scan ∙ sym (list-scans _ nums 0 most_globals at (keeps-global version));
    laid = list-ends-lay nums (keeps-global version) (λ g. g.at) (starts-global version)
        no_ends 0 most_globals at found filled l;
  })

  pub callable-ends : WalkedList (scan_of (read_callable version) nums) 0 most_callables nums at callables_slot slots slots₂ r
      → list_ends (scan_of (read_callable version) nums) (laid_by (read_callable version) lay_callable nums)
      (value_of 0 most_callables nums at) found filled
      → Lays (list_of 0 most_callables (read_callable version)) (lay_all callable_at lay_callable) nums at found filled r
  unfolding callable_at
  callable-ends w l = record {
    scan = w.scan ∙ sym (list-scans _ nums 0 most_callables at (keeps-callable version));
    laid = list-ends-lay nums (keeps-callable version) callable_at (starts-callable version)
        lay_callable 0 most_callables at found filled l;
  }

  pub table-ends : WalkedList (scan_of (read_table version) nums) 0 most_tables nums at tables_slot slots slots₂ r
      → list_ends (scan_of (read_table version) nums) (laid_by (read_table version) lay_table nums)
      (value_of 0 most_tables nums at) found filled
      → Lays (list_of 0 most_tables (read_table version)) (lay_all table_at lay_table) nums at found filled r
  unfolding table_at
  table-ends w l = record {
    scan = w.scan ∙ sym (list-scans _ nums 0 most_tables at (keeps-table version));
    laid = list-ends-lay nums (keeps-table version) table_at (starts-table version)
        lay_table 0 most_tables at found filled l;
  }

  pub state-ends : WalkedList (scan_of (read_state version) nums) 1 most_states nums at states_slot slots slots₂ r
      → list_ends (scan_of (read_state version) nums) (laid_by (read_state version) lay_state nums)
      (value_of 1 most_states nums at) found filled
      → Lays (list_of 1 most_states (read_state version)) (lay_all state_at lay_state) nums at found filled r
  unfolding state_at
  state-ends w l = record {
    scan = w.scan ∙ sym (list-scans _ nums 1 most_states at (keeps-state version));
    laid = list-ends-lay nums (keeps-state version) state_at (starts-state version)
        lay_state 1 most_states at found filled l;
  }

-- the header types and globals, the callables and tables, by what is called for each
module _ (version : ℕ) (nums : List ℕ) (at : ℕ) {found mid ends ends₂ : List ℕ} {a : Scan} where
  module _ {header : Called} (w : WalksList header 0 most_headers nums at headers_slot found mid ends ends₂ a)
      (t : TellsPart header (scan_of (read_header version) nums) (laid_by (read_header version) no_ends nums)) where
    pub declared-fault : {f i : ℕ} → a ≡ Fault f i
        → Lays (read_declared version) lay_declared nums at found mid (Fault f i)
    unfolding read_declared
    declared-fault p = lays-fault _ lay_declared found (headers-lay version nums at found mid a (w.walked _ _ t)) p

    pub declared-no-ends : {f i : ℕ} → a ≡ Fault f i
        → Lays (read_declared version) no_ends nums at ends ends₂ (Fault f i)
    unfolding read_declared
    declared-no-ends p =
        lays-fault _ no_ends ends (header-ends version nums at ends ends₂ found mid a (w.walked _ _ t) (w.laid _ _ t)) p

    module _ {global : Called} {n : ℕ} {filled ends₃ : List ℕ} {r : Scan} (p : a ≡ Past n)
        (v : WalksList global 0 most_globals nums n globals_slot mid filled ends₂ ends₃ r)
        (u : TellsPart global (scan_of (read_global version) nums) (laid_by (read_global version) no_ends nums)) where
      pub declared-past : Lays (read_declared version) lay_declared nums at found filled r
      unfolding read_declared lay_declared declared
      declared-past =
          lays-then (λ hs gs. (hs, gs)) lay_declared (λ hs gs m next slots. refl)
          (keeps-list 0 most_headers (keeps-header version))
          (headers-lay version nums at found mid a (w.walked _ _ t)) p
          (globals-lay version nums n mid filled r (v.walked _ _ u))

      pub declared-ends : Lays (read_declared version) no_ends nums at ends ends₃ r
      unfolding read_declared no_ends
      declared-ends =
          lays-then (λ hs gs. (hs, gs)) no_ends (λ hs gs m next slots. refl)
          (keeps-list 0 most_headers (keeps-header version))
          (header-ends version nums at ends ends₂ found mid a (w.walked _ _ t) (w.laid _ _ t)) p
          (global-ends version nums n ends₂ ends₃ mid filled r (v.walked _ _ u) (v.laid _ _ u))

  module _ {callable : Called} (w : WalksList callable 0 most_callables nums at callables_slot found mid ends ends₂ a)
      (t : TellsPart callable (scan_of (read_callable version) nums) (laid_by (read_callable version) lay_callable nums))
    where
      pub defined-fault : {f i : ℕ} → a ≡ Fault f i
          → Lays (read_defined version) lay_defined nums at found mid (Fault f i)
      unfolding read_defined
      defined-fault p =
          lays-fault _ lay_defined found (callables-lay version nums at found mid a (w.walked _ _ t)) p

      pub defined-no-ends : {f i : ℕ} → a ≡ Fault f i
          → Lays (read_defined version) ends_defined nums at ends ends₂ (Fault f i)
      unfolding read_defined
      defined-no-ends p =
          lays-fault _ ends_defined ends
          (callable-ends version nums at ends ends₂ found mid a (w.walked _ _ t) (w.laid _ _ t)) p

      module _ {table : Called} {n : ℕ} {filled ends₃ : List ℕ} {r : Scan} (p : a ≡ Past n)
          (v : WalksList table 0 most_tables nums n tables_slot mid filled ends₂ ends₃ r)
          (u : TellsPart table (scan_of (read_table version) nums) (laid_by (read_table version) lay_table nums)) where
        pub defined-past : Lays (read_defined version) lay_defined nums at found filled r
        unfolding read_defined lay_defined defined
        defined-past =
            lays-then (λ cs ts. (cs, ts)) lay_defined (λ cs ts m next slots. refl)
            (keeps-list 0 most_callables (keeps-callable version))
            (callables-lay version nums at found mid a (w.walked _ _ t)) p
            (tables-lay version nums n mid filled r (v.walked _ _ u))

        pub defined-ends : Lays (read_defined version) ends_defined nums at ends ends₃ r
        unfolding read_defined ends_defined
        defined-ends =
            lays-next (λ cs ts. (cs, ts)) ends_defined (λ ts end. first_at table_at ts end - 1)
            (λ cs ts next slots. refl) (keeps-list 0 most_callables (keeps-callable version))
            (begins-list 0 most_tables (starts-tables version))
            (callable-ends version nums at ends ends₂ found mid a (w.walked _ _ t) (w.laid _ _ t)) p
            (table-ends version nums n ends₂ ends₃ mid filled r (v.walked _ _ u) (v.laid _ _ u))

-- the apply body
module _ (version : ℕ) (nums : List ℕ) (at : ℕ) (found : List ℕ) (a : Scan) (q : a ≡ scan_of
    (read_stmt version deepest) nums at) where
  pub body-past : (end : ℕ) → a ≡ Past end
      → Lays (read_stmt version deepest) lay_body nums at found (set (set found body_slot at) end_slot end) (Past end)
  unfolding scan_of forget Laid Given lay_body
  body-past end p =
      record {
        scan = sym p ∙ q;
        laid = go (read_stmt version deepest (drop at nums) at)
            ((starts-stmt version deepest).started (drop at nums) at) (sym q ∙ p);
      }
    where
      go : (y : Got Stmt) → Given (λ s. stmt_at s ≡ at) y → forget y ≡ Past end
          → Laid y lay_body found (set (set found body_slot at) end_slot end)
      go (bad fault index) g e = tt
      go (got s left next) g e =
          let same : next ≡ end = cc in
          rw (g, same)

  pub body-fault : (f i : ℕ) → a ≡ Fault f i → Lays (read_stmt version deepest) lay_body nums at found found (Fault f i)
  unfolding scan_of forget Laid
  body-fault f i p = record { scan = sym p ∙ q; laid = go (read_stmt version deepest (drop at nums) at) (sym q ∙ p) }
    where
      go : (y : Got Stmt) → forget y ≡ Fault f i → Laid y lay_body found found
      go (bad fault index) e = tt
      go (got s left next) e = let z : ◌≡◌ {A = ℕ} 0 1 = cc in absurd (omega arith)

pub ruleset bodies = (body-past, body-fault, lays-same)

pub begins-body : (version depth : ℕ) → Begins (λ s end. stmt_at s) (read_stmt version depth)
unfolding BegunAt Given
begins-body version depth = record {
  begun = λ left j. go j (read_stmt version depth left j) ((starts-stmt version depth).started left j);
}
  where
    go : (j : ℕ) (x : Got Stmt) → Given (λ s. stmt_at s ≡ j) x → BegunAt (λ s end. stmt_at s) j x
    go j (got s left next) e = e
    go j (bad fault index) e = tt
