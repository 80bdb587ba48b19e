-- Soundness of files: what the judge accepts is well formed, its entries and its store fit, and it runs within its ceiling.
use mathlib.Core.Path.{◌≡◌, refl, sym}
use mathlib.Core.Bool.{Bool, true, false, ◌&&◌, ◌||◌, false≢true}
use mathlib.Core.Option.{Option, none, some}
use Prim.Native.Nat.{ℕ, ◌≤◌}
use native.Mathlib.Omega.{arith}
use mathlib.Core.List.{List, [], ◌∷◌, map}
use lib.Dec.{leb, eqb}
use lib.ListN.{get_elem?, length}
use borrow.Author.Tests.{eqb-true, leb-true}
use Rattle.rules.specs.declared.Signal.{Signal}
use Rattle.rules.specs.declared.Signal.TheVariants.{Done, Exit, Reject}
use Rattle.rules.specs.Numbers.{Stream, numbers, broken, stream_of}
use Rattle.rules.specs.Words.{fits_width, prefix_fits, mask_fits}
use Rattle.rules.specs.Syntax.{bool, KeyKind, exact, lpm, ternary, Global, Parameter, Key, Table, Program}
use Rattle.rules.specs.Reading.{Got, within, has_parser, read_program}
use Rattle.rules.specs.Form.{Res, ok, need, only_if, fits, Shape, a_variable, a_header, shape_in, in_apply, apply_scope, judge_table, judge_tables, judge_globals, judge_states, judge_stmt, judge_program}
use Rattle.rules.specs.Ceiling.{most_steps, callee_in, ceilings_below, ceiling_table, ceiling_with, ceiling_of}
use Rattle.rules.specs.Lists.{Entry, most_entries, nothing_left, Cell, variable_cell, header_cell, passing, key_width, action_at, numbered, asked, is_byte, most_packet, read_bytes, read_packet, read_pattern, read_patterns, read_arguments, read_entry, read_entries, read_fields, read_shape, read_cell, read_cells, read_store, slots_of}
use Rattle.rules.specs.Running.{State, Ending, Seen, Out, done, full, ◌>>=◌, calls_below, arguments_fit, arguments_given, pattern_fits, patterns_fit, run_table, finish, started, run_program}
use Rattle.rules.specs.Answers.{Bench, checked, judging_program, judging, Judged, accepted, refused, placed, judged_stream, judged, outcome_of, run_bench, file_outcome, told_with, numbers_of, of_signal, working_slots, marked}
use Rattle.rules.proofs.Refusals.{program-reads, Judging-ok, fine, faulty, program-judged, place-within, Stream-ok, whole, breaks, stream-ok}
use Rattle.rules.proofs.Predicates.{JudgeGives, gives, if-any, and_both, both_true, All2, nil, cons, All, none_left, also, look-all, IfOk, is_ok, IfSome, if_none, if_some, IfGot, is_got, is_bad, SomeOf, is_some, ok-then, ok-map, ok-self, from-ok, if-then, if-map, if-self, Reads, reads_then, reads-pure, reads-looked-up, reads-repeat, at_most, Good, good, is_full, Runs, runs_then, runs-fits}
use Rattle.rules.proofs.Readers.{Given}
use Rattle.rules.proofs.Limits.{Limited, gives-limited}
use Rattle.rules.proofs.Fits.{FitWidth, CellFits, variable_fits, valid_fits, invalid_fits, GlobalFits, global_fits, StoreFits, StateFits}
use Rattle.rules.proofs.Sound.{EndOk, CallsOk, AppliesOk, sound-stmt}
use Rattle.rules.proofs.Callables.{AllJudged, judged-all, calls-below}
use Rattle.rules.proofs.Tables.{EntryOk, table-ok}
use Rattle.rules.proofs.Parsers.{as-apply, as-state, parsed-then, parser-ok}

-- numbers that pass a test
only-if : (b : Bool) {A : Type 0} (a : A) → IfSome (λ x. (x ≡ a) × (b ≡ true)) (only_if b (some a))
unfolding only_if
only-if true a = if_some (refl, refl)
only-if false a = if_none

reads-passing : (number : ℕ) → JudgeGives number → (test : ℕ → Bool) → Reads (λ n. test n ≡ true) (passing number test)
unfolding passing
reads-passing number q test = reads-looked-up number q λ n. if-map (only-if (test n) n) λ x h. rw h.0 h.1

reads-asked : (P : Program) (test : ℕ → Bool) → Reads (λ n. test n ≡ true) (passing 10 (asked true P test))
unfolding asked
reads-asked P test = reads-passing 10 (gives 10 refl) test

reads-numbered : {A : Type 0} (what : ℕ → Option A) → Reads (λ x.
    what x.0 ≡ some x.1) (Rattle.rules.specs.Reading.looked_up 10 (numbered what))
unfolding numbered
reads-numbered what = reads-looked-up 10 (gives 10 refl) λ n. if-then (if-self (what n)) λ a e. if_some e

-- entries
module _ (P : Program) where
  pattern-reads : (k : KeyKind) (w : ℕ) → Reads (λ p. pattern_fits w p ≡ true) (read_pattern true P k w)
  unfolding read_pattern pattern_fits
  pattern-reads exact w = reads_then (reads-asked P (fits_width w)) λ v h. reads-pure _ h
  pattern-reads lpm w = reads_then (reads-asked P (fits_width w)) λ v h.
      reads_then (reads-asked P (prefix_fits w v)) λ n q. reads-pure _ (both_true _ _ h q)
  pattern-reads ternary w = reads_then (reads-asked P (fits_width w)) λ v h.
      reads_then (reads-asked P (mask_fits w v)) λ n q. reads-pure _ (both_true _ _ h q)

  patterns-read : (ks : List Key) → Reads (λ ps. patterns_fit (map (key_width P) ks) ps ≡ true) (read_patterns true P ks)
  unfolding read_patterns patterns_fit
  patterns-read [] = reads-pure _ refl
  patterns-read (k ∷ ks) = reads_then (pattern-reads k.kind (key_width P k)) λ p h.
      reads_then (patterns-read ks) λ ps hs. reads-pure _ (both_true _ _ h hs)

  arguments-read : (ps : List Parameter) → Reads (λ ns. arguments_fit ps ns ≡ true) (read_arguments true P ps)
  unfolding read_arguments arguments_fit
  arguments-read [] = reads-pure _ refl
  arguments-read (p ∷ ps) = reads_then (reads-asked P (fits p.ty)) λ n h. reads_then (arguments-read ps) λ ns hs.
      reads-pure _ (both_true _ _ h hs)

  entry-reads : Reads (EntryOk P) (read_entry true P)
  unfolding read_entry arguments_given
  entry-reads = reads_then (reads-numbered (get_elem? P.tables)) λ t ht.
      reads_then (patterns-read t.1.keys) λ ps hp. reads_then (reads-numbered (action_at P t.1)) λ a ha.
      reads_then (arguments-read a.1.parameters) λ ns hn. reads-pure _ λ T e. rw (same T t.1 e ht) (hp, rw ha hn)
    where
      same : (T U : Table) {o : Option Table} → o ≡ some T → o ≡ some U → T ≡ U
      same T U e q = cc

  pub entries-read : Reads (All (EntryOk P)) (read_entries true P)
  unfolding read_entries
  entries-read = reads_then (reads-looked-up 10 (gives 10 refl) λ n. if-any (within 0 most_entries n)) λ n _.
      reads-repeat n entry-reads

-- the store
abbrev FieldsFit : Bool → List ℕ → List ℕ → Type 0
FieldsFit valid widths ns = (valid ≡ true → All2 FitWidth widths ns) × (valid ≡ false → All2 (λ _ n. n ≡ 0) widths ns)

zero-only : (valid : Bool) (n : ℕ) → (valid || eqb n 0) ≡ true → valid ≡ false → n ≡ 0
zero-only true n h e = absurd (false≢true (sym e))
zero-only false n h e = eqb-true n 0 h

fields_read : (valid : Bool) (widths : List ℕ) → Reads (FieldsFit valid widths) (read_fields valid widths)
unfolding read_fields
fields_read valid [] = reads-pure _ (λ _. nil, λ _. nil)
fields_read valid (w ∷ widths) = reads_then (reads-passing 11 (gives 11 refl) λ n.
    fits_width w n && (valid || eqb n 0)) λ n h.
    reads_then (fields_read valid widths) λ ns hs.
    let both = and_both (fits_width w n) (valid || eqb n 0) h in
    reads-pure _ (λ e. cons both.0 (hs.0 e), λ e. cons (zero-only valid n both.1 e) (hs.1 e))

header-fits : (valid : Bool) {widths ns : List ℕ} → FieldsFit valid widths ns
    → CellFits (a_header widths) (header_cell valid ns)
header-fits true h = valid_fits (h.0 refl)
header-fits false h = invalid_fits (h.1 refl)

shape-reads : (shape : Shape) → Reads (CellFits shape) (read_shape shape)
unfolding read_shape
shape-reads (a_variable t) = reads_then (reads-passing 11 (gives 11 refl) (fits t)) λ n h.
    reads-pure (variable_cell n) (variable_fits h)
shape-reads (a_header widths) = reads_then (reads-passing 11 (gives 11 refl) (fits bool)) λ mark _.
    reads_then (fields_read (eqb mark 1) widths) λ ns h.
    reads-pure (header_cell (eqb mark 1) ns) (header-fits (eqb mark 1) h)

got-some : {shape : Shape} {g : Got Cell} → IfGot (CellFits shape) g → IfGot (λ c. SomeOf (λ s.
    CellFits s c) (some shape)) g
got-some (is_got h) = is_got (is_some h)
got-some (is_bad q) = is_bad q

cell-reads : (o : Option Shape) → Reads (λ c. SomeOf (λ shape. CellFits shape c) o) (read_cell o)
unfolding read_cell
cell-reads none = record { reads = λ left at. is_bad (gives 11 refl) }
cell-reads (some shape) = record { reads = λ left at. got-some ((shape-reads shape).reads left at) }

shape-found : (P : Program) (g : Global) (c : Cell) {o : Option Shape} → shape_in P g.ty ≡ o → SomeOf (λ shape.
    CellFits shape c) o → GlobalFits P g c
shape-found P g c e (is_some h) = global_fits e h

cells-read : (P : Program) (gs : List Global) → Reads (All2 (GlobalFits P) gs) (read_cells P gs)
unfolding read_cells
cells-read P [] = reads-pure _ nil
cells-read P (g ∷ gs) = reads_then (cell-reads (shape_in P g.ty)) λ c h. reads_then (cells-read P gs) λ cs hs.
    reads-pure _ (cons (shape-found P g c refl h) hs)

store-reads : (P : Program) → Reads (StoreFits P) (read_store P)
unfolding read_store
store-reads P = cells-read P P.globals

-- the packet
abbrev PacketFits : List ℕ → Type 0
PacketFits ns = All (λ n. is_byte n ≡ true) ns

bytes_read : Reads PacketFits read_bytes
unfolding read_bytes
bytes_read = reads_then (reads-looked-up 16 (gives 16 refl) λ n. if-any (within 0 most_packet n)) λ n _.
    reads-repeat n (reads-passing 16 (gives 16 refl) is_byte)

packet-reads : (P : Program) → Reads PacketFits (read_packet P)
unfolding read_packet
packet-reads P = go (has_parser P.version)
  where
    go : (b : Bool) → Reads {A = List ℕ} PacketFits (elim b [
      | true ↦ read_bytes
      | false ↦ Rattle.rules.specs.Reading.pure []
    ])
    go true = bytes_read
    go false = reads-pure _ none_left

-- what is known of a bench file that the judge accepts
pub record BenchOk (bench : Bench) : Type 0 where
  pub limited : Limited bench.program
  pub formed : judge_program bench.program ≡ ok tt
  pub bounded : ceiling_of bench.program ≤ most_steps
  pub entries-fit : All (EntryOk bench.program) bench.entries
  pub store-fits : StoreFits bench.program bench.store
  pub packet-fits : PacketFits bench.packet

reads-checked : {A : Type 0} {r : Res A} → Judging-ok r → Reads (λ a. r ≡ ok a) (checked r)
unfolding checked
reads-checked fine = record { reads = λ left at. is_got refl }
reads-checked (faulty q) = record { reads = λ left at. is_bad q }

left_at : (left : List ℕ) (at : ℕ) → IfGot (λ _. Unit {0}) (nothing_left left at)
unfolding nothing_left
left_at [] at = is_got tt
left_at (n ∷ left) at = is_bad (gives 12 refl)

bounded-ok : (b : Bool) → Judging-ok (need 9 0 b)
unfolding need
bounded-ok true = fine
bounded-ok false = faulty (gives 9 refl)

needed : (number at : ℕ) (b : Bool) {a : Unit {0}} → need number at b ≡ ok a → b ≡ true
unfolding need
needed number at true e = refl
needed number at false e = let z : ◌≡◌ {A = ℕ} 0 1 = cc in absurd (omega arith)

got-limited : {g : Got Program} → IfGot (λ _. Unit {0}) g → Given Limited g → IfGot Limited g
unfolding Given
got-limited (is_got p) h = is_got h
got-limited (is_bad q) h = is_bad q

program-limited : Reads Limited read_program
program-limited = record { reads = λ left at. got-limited (program-reads.reads left at) (gives-limited.given left at) }

judging-reads : Reads BenchOk judging
unfolding judging judging_program
judging-reads = reads_then program-limited λ P limited. reads_then (reads-checked (program-judged P)) λ _ formed.
    reads_then (reads-checked (bounded-ok (leb (ceiling_of P) most_steps))) λ _ bounded.
    reads_then (entries-read P) λ es fit.
    reads_then (store-reads P) λ cells fits. reads_then (packet-reads P) λ packet bytes.
    reads_then (record { reads = left_at }) λ _ _. reads-pure _ (record {
      limited = limited;
      formed = formed;
      bounded = leb-true (ceiling_of P) most_steps (needed 9 0 (leb (ceiling_of P) most_steps) bounded);
      entries-fit = fit;
      store-fits = fits;
      packet-fits = bytes;
    })

accepted-ok : (bytes : List ℕ) {g : Got Bench} (bench : Bench) → IfGot BenchOk g → placed bytes g ≡ accepted bench
    → BenchOk bench
unfolding placed
accepted-ok bytes bench (is_got {a} h) e = rw (same a bench e) at h
  where
    same : (a b : Bench) → accepted a ≡ accepted b → a ≡ b
    same a b e = cc
accepted-ok bytes bench (is_bad q) e = absurd (let z : ◌≡◌ {A = ℕ} 0 1 = cc in omega arith)

stream-accepted : (bytes : List ℕ) (s : Stream) (bench : Bench) → judged_stream bytes s ≡ accepted bench → BenchOk bench
unfolding judged_stream
stream-accepted bytes (numbers ns) bench e = accepted-ok bytes bench (judging-reads.reads ns 0) e
stream-accepted bytes (broken number place) bench e = absurd (let z : ◌≡◌ {A = ℕ} 0 1 = cc in omega arith)

pub judged-ok : (bytes : List ℕ) (bench : Bench) → judged bytes ≡ accepted bench → BenchOk bench
unfolding judged
judged-ok bytes bench e = stream-accepted bytes (stream_of bytes) bench e

-- tables, then the whole program
tables-judged : (P : Program) (Ts : List Table) → IfOk (λ _. All (λ T. judge_table P T ≡ ok tt) Ts) (judge_tables P Ts)
unfolding judge_tables
tables-judged P [] = is_ok none_left
tables-judged P (T ∷ Ts) = ok-then (ok-self (judge_table P T)) λ _ h. ok-map (tables-judged P Ts) λ _ hs. also h hs

-- the callables and tables of a program that is well formed
pub record PartsJudged (P : Program) : Type 0 where
  pub callables : AllJudged P 0 P.callables
  pub tables : All (λ T. judge_table P T ≡ ok tt) P.tables

parts-judged-if : (P : Program) → IfOk (λ _. PartsJudged P) (judge_program P)
unfolding judge_program
parts-judged-if P = ok-then (ok-self (judge_globals P P.globals)) λ _ _.
    ok-then (judged-all P 0 P.callables) λ _ callables. ok-then (tables-judged P P.tables) λ _ tables.
    ok-then (ok-self (judge_states P 0 P.states)) λ _ _. ok-map (ok-self (judge_stmt (apply_scope P) P.body)) λ _ _. record { callables = callables; tables = tables }

pub parts-judged : (P : Program) → judge_program P ≡ ok tt → PartsJudged P
parts-judged P e = from-ok (rw e at (parts-judged-if P))

-- how a run of an accepted file ends: within the ceiling, with a store that fits; or full
pub data Ends (P : Program) : Out (List Cell) Signal → Type 0 where
  ends : (signal : Signal) (store : List Cell) (seen : Seen) → length seen ≤ ceiling_of P → StoreFits P store
      → Ends P (done signal store seen)
  fills : Ends P full

finish-ends : (P : Program) {R : Ending → Type 0} {o : Out State Ending}
    → Good ◌≤◌ (StateFits (apply_scope P)) R (ceiling_of P) o → Ends P (finish o)
unfolding finish apply_scope
finish-ends P (good seen r f q) = ends _ _ seen q f.store-fits
finish-ends P is_full = fills

module _ (capacity : ℕ) (P : Program) (entries : List Entry) (fit : All (EntryOk P) entries) where
  applies : (used : ℕ) → CallsOk P (length P.callables) (calls_below capacity P (length P.callables)) (callee_in
      (ceilings_below P (length P.callables)))
      → ((t : ℕ) → IfSome (λ T. judge_table P T ≡ ok tt) (get_elem? P.tables t))
      → AppliesOk (apply_scope P) (run_table P used (calls_below capacity P (length P.callables)) entries) (λ t.
      ceiling_table (callee_in (ceilings_below P (length P.callables))) (get_elem? P.tables t))
  unfolding apply_scope
  applies used h judged _ t = go (get_elem? P.tables t) refl (judged t)
    where
      go : (o : Option Table) → get_elem? P.tables t ≡ o → IfSome (λ T. judge_table P T ≡ ok tt) o
          → IfSome (λ _. Runs ◌≤◌ (StateFits (apply_scope P)) (EndOk in_apply false) (ceiling_table (callee_in
          (ceilings_below P (length P.callables))) o) (run_table P used (calls_below capacity P (length
          P.callables)) entries t)) o
      go none e j = if_none
      go (some T) e (if_some j) = if_some (from-ok (rw j at (table-ok P used (calls_below capacity P (length
          P.callables)) (callee_in (ceilings_below P (length P.callables))) h entries fit t T e)))

  program-ok : IfOk (λ _. (store : List Cell) (packet : List ℕ) → StoreFits P store
      → Ends P (run_program capacity P entries store packet)) (judge_program P)
  unfolding judge_program run_program started ceiling_of ceiling_with apply_scope ◌>>=◌
  program-ok = ok-then (ok-self (judge_globals P P.globals)) λ _ _.
      ok-then (judged-all P 0 P.callables) λ _ callables. ok-then (tables-judged P P.tables) λ _ tables.
      ok-then (ok-self (judge_states P 0 P.states)) λ _ i.
      ok-map (ok-self (judge_stmt (apply_scope P) P.body)) λ _ j store packet h.
      let used = length (slots_of store) in
      let calls = calls_below capacity P (length P.callables) in
      let callee = callee_in (ceilings_below P (length P.callables)) in
      let called : CallsOk P (length P.callables) calls callee = calls-below capacity P callables (length
      P.callables) in
      let parses = runs-fits (as-state P) (as-apply P) (from-ok (rw i at (parser-ok P used calls callee called))) in
      let applied = from-ok (rw j at (sound-stmt (apply_scope P) used calls callee called _ _ (applies used called
      (look-all tables)) P.body)) in
      finish-ends P ((runs_then at_most parses (λ e he. parsed-then he applied)).run _
      (record { store-fits = h; parameters-fit = nil; locals-fit = nil }))

-- THE THEOREM: for all bytes that are accepted, and every capacity
pub accepted-ends : (capacity : ℕ) (bytes : List ℕ) (bench : Bench) → judged bytes ≡ accepted bench
    → Ends bench.program (run_program capacity bench.program bench.entries bench.store bench.packet)
accepted-ends capacity bytes bench e = let known = judged-ok bytes bench e in
    from-ok (rw known.formed at (program-ok capacity bench.program bench.entries known.entries-fit))
    bench.store bench.packet known.store-fits

-- so no file's result is the stuck one
ends-told : (P : Program) (ceiling : ℕ) {o : Out (List Cell) Signal} → Ends P o
    → numbers_of (outcome_of ceiling o) ≡ 3 ∷ [] → ⊥
unfolding numbers_of told_with outcome_of of_signal
ends-told P ceiling (ends Done store seen q h) e = let z : ◌≡◌ {A = ℕ} 1 3 = cc in omega arith
ends-told P ceiling (ends Exit store seen q h) e = let z : ◌≡◌ {A = ℕ} 2 3 = cc in omega arith
ends-told P ceiling (ends (Reject error) store seen q h) e = let z : ◌≡◌ {A = ℕ} 4 3 = cc in omega arith
ends-told P ceiling fills e = let z : ◌≡◌ {A = ℕ} 0 3 = cc in omega arith

file-told : (capacity : ℕ) (j : Judged) → ((bench : Bench) → j ≡ accepted bench
    → Ends bench.program (run_program capacity bench.program bench.entries bench.store bench.packet))
    → numbers_of (file_outcome capacity j) ≡ 3 ∷ [] → ⊥
unfolding file_outcome run_bench
file-told capacity (accepted bench) h e = ends-told bench.program (ceiling_of bench.program) (h bench refl) e
file-told capacity (refused number place) h e = unfold numbers_of told_with in let z : ◌≡◌ {A = ℕ} 0 3 = cc in omega arith

pub never_stuck : (bytes : List ℕ) → marked bytes ≡ 3 ∷ [] → ⊥
unfolding marked
never_stuck bytes e = file-told working_slots (judged bytes) (λ bench q. accepted-ends working_slots bytes bench q) e

-- every file is accepted, or refused with a number from 1 to 12 or 16 at a place within it
pub data Answered (bytes : List ℕ) : Judged → Type 0 where
  is_accepted : {bench : Bench} → Answered bytes (accepted bench)
  is_refused : {number place : ℕ} → JudgeGives number → place ≤ length bytes → Answered bytes (refused number place)

placed-ok : (bytes : List ℕ) {g : Got Bench} → IfGot BenchOk g → Answered bytes (placed bytes g)
unfolding placed
placed-ok bytes (is_got h) = is_accepted
placed-ok bytes (is_bad q) = is_refused q (place-within bytes _)

answered-stream : (bytes : List ℕ) {s : Stream} → Stream-ok (length bytes) s → Answered bytes (judged_stream bytes s)
unfolding judged_stream
answered-stream bytes whole = placed-ok bytes (judging-reads.reads _ 0)
answered-stream bytes (breaks q h) = is_refused q h

pub judge-answers : (bytes : List ℕ) → Answered bytes (judged bytes)
unfolding judged
judge-answers bytes = answered-stream bytes (stream-ok bytes)
