-- What the scan of a program promises, for the passes that come after: the program that the rules read stands in the
-- numbers, by the directory and the ends that the scan left.
use mathlib.Core.Bool.{Bool, true, false}
use mathlib.Core.Option.{some}
use mathlib.Core.Path.{◌≡◌, refl, sym, ◌∙◌}
use mathlib.Core.List.{List, [], ◌∷◌, map}
use Prim.Native.Nat.{ℕ, zero, suc, ◌+◌, ◌-◌, ◌≤◌, ◌<◌}
use native.Mathlib.Omega.{arith}
use lib.ListN.{length, get_or, drop, get_elem?}
use Rattle.rules.specs.Numbers.{most_bytes}
use Rattle.rules.specs.Syntax.{HeaderTy, Global, Callable, Table, ParserState, Stmt, Program}
use Rattle.rules.specs.Reading.{Reader, got, stands_for, has_parser, repeat, list_of, deepest, most_headers, most_globals, most_callables, most_tables, most_states, version_of, read_header, read_global, read_callable, read_table, read_state, read_states, read_after_version, read_program}
use Rattle.rules.proofs.Readers.{Keeps, keeps-stands, keeps-list, keeps-header, keeps-global, keeps-callable, keeps-table, keeps-state, keeps-states, keeps-stmt}
use Rattle.shape.specs.Directory.{stmt_at, directory_left}
use Rattle.shape.specs.Ends.{first_at, callable_at, table_at, state_at, states_at, blocks_at, EndedAll, EndedState, EndedStmt, EndedCallable, EndedTable, EndedProgram, ScansProgram}
use Rattle.shape.specs.Scans.{Scan}
use Rattle.shape.proofs.Entries.{Entries, entries}
use Rattle.shape.proofs.Lines.{NoEnded, scan-ended}
use Rattle.program.specs.Stands.{Holds, StandsState, StandsStmt, StandsHeader, StandsGlobal, StandsCallable, StandsTable, StandsList, StandsProgram}
use Rattle.program.proofs.Found.{member-in}
use Rattle.program.proofs.Readings.{Reads, reads-to, Both, both, Given, reads-pure, Meant, reads-stands, within-some, Counted, reads-list, reads_none, Head, reads_more}
use Rattle.program.proofs.StmtsStand.{stmt-at, stmt-stands}
use Rattle.program.proofs.PartsStand.{header-stands, global-stands, callable-stands}
use Rattle.program.proofs.TablesStand.{table-stands}
use Rattle.program.proofs.StatesStand.{state-stands}

-- where each member of a list was read, it stands; `start` is the index that it carries
record AllStood {A : Type 0} (start : A → ℕ) (Stands : ℕ → A → Type 0) (at next : ℕ) (xs : List A) : Type 0 where
  pub begin : first_at start xs next ≡ at
  pub member : (i : ℕ) (x : A) → get_elem? xs i ≡ some x → Stands (start x) x

module _ {A : Type 0} (start : A → ℕ) (Ended : A → ℕ → List ℕ → Type 0) (Stands : ℕ → A → Type 0) (one : Reader A)
    (nums ends : List ℕ) (keeps : Keeps one) (each : (at next : ℕ) (x : A) → Reads one nums at next x
    → Ended x next ends
    → (start x ≡ at) × Stands at x) where
  all_more : (at mid next : ℕ) (x : A) (xs : List A) → Reads one nums at mid x → Ended x (first_at start xs next) ends
      → AllStood start Stands mid next xs → AllStood start Stands at next (x ∷ xs)
  unfolding first_at
  all_more at mid next x xs r h others =
      let s : (start x ≡ at) × Stands at x = each at mid x r (rw others.begin at h) in
      record { begin = s.0; member = go s }
    where
      go : (start x ≡ at) × Stands at x → (i : ℕ) (y : A) → get_elem? (x ∷ xs) i ≡ some y → Stands (start y) y
      go s zero y e =
          let same : x ≡ y = cc in
          rw (← same) (rw s.0 s.1)
      go s (suc i) y e = others.member i y e

  all-stand : (n at next : ℕ) (xs : List A) → Reads (repeat n one) nums at next xs → EndedAll start Ended xs next ends
      → AllStood start Stands at next xs
  unfolding EndedAll first_at
  all-stand zero at next xs r h =
      let g : Given [] xs at next = reads_none one r in
      rw (← g.same) (record {
        begin = sym g.stays;
        member = λ i x e. let z : ◌≡◌ {A = ℕ} 0 1 = cc in absurd (omega arith);
      })
  all-stand (suc n) at next xs r h =
      let t : Head n one nums at next xs = reads_more keeps r in
      let k : EndedAll start Ended (t.member ∷ t.others) next ends = rw t.same at h in
      rw t.same (all_more at t.mid next t.member t.others t.first k.0
      (all-stand n t.mid next t.others t.rest k.1))

-- the slot of a member holds the index that it carries
map_at : {A : Type 0} (start : A → ℕ) (xs : List A) (i : ℕ) (x : A) → get_elem? xs i ≡ some x
    → get_or (map start xs) i 0 ≡ start x
map_at start [] i x e = let z : ◌≡◌ {A = ℕ} 0 1 = cc in absurd (omega arith)
map_at start (y ∷ ys) zero x e = let same : y ≡ x = cc in rw same
map_at start (y ∷ ys) (suc i) x e = map_at start ys i x e

in-slots : {A : Type 0} (start : A → ℕ) (Stands : ℕ → A → Type 0) (directory : List ℕ) (slot most : ℕ) (xs : List A)
    → get_or directory slot 0 ≡ length xs → length xs ≤ most
    → ((i : ℕ) → i < length xs → get_or directory (slot + 1 + i) 0 ≡ get_or (map start xs) i 0)
    → ((i : ℕ) (x : A) → get_elem? xs i ≡ some x → Stands (start x) x)
    → StandsList Stands directory slot most xs
in-slots start Stands directory slot most xs count few held stands = record {
  count = count;
  few = few;
  member = λ i x e. rw (held i (member-in xs i x e) ∙ map_at start xs i x e) (stands i x e);
}

none-ended : {A : Type 0} (start : A → ℕ) (xs : List A) (end : ℕ) (slots : List ℕ)
    → EndedAll start (NoEnded {A = A}) xs end slots
unfolding EndedAll NoEnded
none-ended start [] end slots = tt
none-ended start (x ∷ xs) end slots = (tt, none-ended start xs end slots)

-- the parts of a program by themselves
record PartsStood (version : ℕ) (nums ends : List ℕ) (P : Program) : Type 0 where
  pub version_is : P.version ≡ version
  pub headers_few : length P.headers ≤ most_headers
  pub headers : (i : ℕ) (x : HeaderTy) → get_elem? P.headers i ≡ some x → StandsHeader nums x.at x
  pub globals_few : length P.globals ≤ most_globals
  pub globals : (i : ℕ) (x : Global) → get_elem? P.globals i ≡ some x → StandsGlobal nums x.at x
  pub callables_few : length P.callables ≤ most_callables
  pub callables : (i : ℕ) (x : Callable) → get_elem? P.callables i ≡ some x → StandsCallable nums ends x.at x
  pub tables_few : length P.tables ≤ most_tables
  pub tables : (i : ℕ) (x : Table) → get_elem? P.tables i ≡ some x → StandsTable nums ends x.at x
  pub states_few : length P.states ≤ most_states
  pub states : (i : ℕ) (x : ParserState) → get_elem? P.states i ≡ some x → StandsState nums ends x.at x
  pub body : StandsStmt nums ends deepest (stmt_at P.body) P.body

module _ (version : ℕ) (nums ends : List ℕ) where
  headers-stand : (at next : ℕ) (hs : List HeaderTy) → Reads (list_of 0 most_headers (read_header version)) nums at next hs
      → (length hs ≤ most_headers) × ((i : ℕ) (x : HeaderTy) → get_elem? hs i ≡ some x → StandsHeader nums x.at x)
  headers-stand at next hs r =
      let c : Counted 0 most_headers (read_header version) nums at next hs = reads-list r in (
        c.holds.at_most,
        (all-stand (λ h. h.at) NoEnded (StandsHeader nums) (read_header version) nums ends
            (keeps-header version)
            (λ at next h r e. let s : StandsHeader nums at h = header-stands version nums at next h r in (s.index, s))
            (length hs) (at + 1) next hs c.members (none-ended (λ h. h.at) hs next ends)).member,
      )

  globals-stand : (at next : ℕ) (gs : List Global) → Reads (list_of 0 most_globals (read_global version)) nums at next gs
      → (length gs ≤ most_globals) × ((i : ℕ) (x : Global) → get_elem? gs i ≡ some x → StandsGlobal nums x.at x)
  globals-stand at next gs r =
      let c : Counted 0 most_globals (read_global version) nums at next gs = reads-list r in (
        c.holds.at_most,
        (all-stand (λ g. g.at) NoEnded (StandsGlobal nums) (read_global version) nums ends
            (keeps-global version)
            (λ at next g r e. let s : StandsGlobal nums at g = global-stands version nums at next g r in (s.index, s))
            (length gs) (at + 1) next gs c.members (none-ended (λ g. g.at) gs next ends)).member,
      )

  callables-stand : (at next : ℕ) (cs : List Callable)
      → Reads (list_of 0 most_callables (read_callable version)) nums at next cs
      → EndedAll callable_at EndedCallable cs next ends
      → (length cs ≤ most_callables) × ((i : ℕ) (x : Callable) → get_elem? cs i ≡ some x
      → StandsCallable nums ends x.at x)
  unfolding callable_at
  callables-stand at next cs r h =
      let c : Counted 0 most_callables (read_callable version) nums at next cs = reads-list r in (
        c.holds.at_most,
        (all-stand callable_at EndedCallable (StandsCallable nums ends) (read_callable version) nums ends
            (keeps-callable version)
            (λ at next c r e. let s : StandsCallable nums ends at c = callable-stands version nums ends at next c r
            e in (s.index, s))
            (length cs) (at + 1) next cs c.members h).member,
      )

  -- the tables, and where their count stands
  record TablesStood (at next : ℕ) (ts : List Table) : Type 0 where
    pub few : length ts ≤ most_tables
    pub stand : (i : ℕ) (x : Table) → get_elem? ts i ≡ some x → StandsTable nums ends x.at x
    pub begin : first_at table_at ts next ≡ at + 1

  tables-stand : (at next : ℕ) (ts : List Table) → Reads (list_of 0 most_tables (read_table version)) nums at next ts
      → EndedAll table_at EndedTable ts next ends → TablesStood at next ts
  unfolding table_at
  tables-stand at next ts r h =
      let c : Counted 0 most_tables (read_table version) nums at next ts = reads-list r in
      let a : AllStood table_at (StandsTable nums ends) (at + 1) next ts
      = all-stand table_at EndedTable (StandsTable nums ends) (read_table version) nums ends (keeps-table version)
      (λ at next t r e. let s : StandsTable nums ends at t = table-stands version nums ends at next t r e in
      (s.index, s))
      (length ts) (at + 1) next ts c.members h in
      record { few = c.holds.at_most; stand = a.member; begin = a.begin }

  -- the states, which stand there where the version has a parser, and where they begin
  record StatesStood (at next : ℕ) (ss : List ParserState) : Type 0 where
    pub few : length ss ≤ most_states
    pub stand : (i : ℕ) (x : ParserState) → get_elem? ss i ≡ some x → StandsState nums ends x.at x
    pub begin : states_at ss next ≡ at

  states-begin : (at next : ℕ) (ss : List ParserState) → 1 ≤ length ss → first_at state_at ss next ≡ at + 1
      → states_at ss next ≡ at
  unfolding states_at first_at state_at
  states-begin at next [] h e = absurd (omega arith)
  states-begin at next (s ∷ ss) h e = omega (arith, e)

  states-stand : (at next : ℕ) (ss : List ParserState) → Reads (read_states version) nums at next ss
      → EndedAll state_at EndedState ss next ends → StatesStood at next ss
  unfolding read_states state_at states_at
  states-stand at next ss r h = go (has_parser version) r
    where
      go : (b : Bool) → Reads {A = List ParserState} (elim b [
        | true ↦ list_of 1 most_states (read_state version)
        | false ↦ Rattle.rules.specs.Reading.pure []
      ]) nums at next ss → StatesStood at next ss
      go true r =
          let c : Counted 1 most_states (read_state version) nums at next ss = reads-list r in
          let a : AllStood state_at (StandsState nums ends) (at + 1) next ss
          = all-stand state_at EndedState (StandsState nums ends) (read_state version) nums ends (keeps-state version)
          (λ at next s r e. let w : StandsState nums ends at s = state-stands version nums ends at next s r e in
          (w.index, w))
          (length ss) (at + 1) next ss c.members h in
          record {
            few = c.holds.at_most;
            stand = a.member;
            begin = states-begin at next ss c.holds.at_least a.begin;
          }
      go false r =
          let g : Given [] ss at next = reads-pure r in
          rw (← g.same) (record {
            few = omega arith;
            stand = λ i x e. let z : ◌≡◌ {A = ℕ} 0 1 = cc in absurd (omega arith);
            begin = sym g.stays;
          })

  parts-stand : (at next : ℕ) (P : Program) → Reads (read_after_version version) nums at next P → EndedProgram P next ends
      → PartsStood version nums ends P
  unfolding read_after_version blocks_at
  parts-stand at next P r h =
      let x : Both _ _ nums at next P = both (keeps-list 0 most_headers (keeps-header version)) r in
      let y : Both _ _ nums x.mid next P = both (keeps-list 0 most_globals (keeps-global version)) x.second in
      let z : Both _ _ nums y.mid next P = both (keeps-list 0 most_callables (keeps-callable version)) y.second in
      let w : Both _ _ nums z.mid next P = both (keeps-list 0 most_tables (keeps-table version)) z.second in
      let u : Both _ _ nums w.mid next P = both (keeps-states version) w.second in
      let v : Both _ _ nums u.mid next P = both (keeps-stmt version deepest) u.second in
      let g : Given (record {
        version = version;
        headers = x.result;
        globals = y.result;
        callables = z.result;
        tables = w.result;
        states = u.result;
        body = v.result;
      }) P v.mid next = reads-pure v.second in
      rw (← g.same) (together x.result y.result z.result w.result u.result v.result z.mid w.mid
      u.mid
      (headers-stand at x.mid x.result x.first) (globals-stand x.mid y.mid y.result y.first)
      (callables-stand y.mid z.mid z.result z.first) (tables-stand z.mid w.mid w.result w.first)
      (states-stand w.mid u.mid u.result u.first)
      (stmt-stands version nums ends deepest u.mid next v.result (reads-to g.stays v.first))
      (rw (← g.same) at h))
    where
      together : (hs : List HeaderTy) (gs : List Global) (cs : List Callable) (ts : List Table) (ss : List ParserState)
          (body : Stmt) (i j k : ℕ)
          → (length hs ≤ most_headers) × ((i : ℕ) (x : HeaderTy) → get_elem? hs i ≡ some x → StandsHeader nums x.at x)
          → (length gs ≤ most_globals) × ((i : ℕ) (x : Global) → get_elem? gs i ≡ some x → StandsGlobal nums x.at x)
          → (EndedAll callable_at EndedCallable cs i ends → (length cs ≤ most_callables)
          × ((i : ℕ) (x : Callable) → get_elem? cs i ≡ some x → StandsCallable nums ends x.at x))
          → (EndedAll table_at EndedTable ts j ends → TablesStood i j ts)
          → (EndedAll state_at EndedState ss k ends → StatesStood j k ss)
          → (EndedStmt body next ends → StandsStmt nums ends deepest k body)
          → EndedProgram (record {
            version = version;
            headers = hs;
            globals = gs;
            callables = cs;
            tables = ts;
            states = ss;
            body
                = body;
          })
          next ends
          → PartsStood version nums ends (record {
            version = version;
            headers = hs;
            globals = gs;
            callables = cs;
            tables = ts;
            states = ss;
            body = body;
          })
      together hs gs cs ts ss body i j k ph pg fc ft fs fb e =
          let b : StandsStmt nums ends deepest k body = fb e.body in
          let x : StatesStood j k ss = fs (rw (stmt-at b) at e.states) in
          let block : states_at ss (stmt_at body) ≡ j = rw (stmt-at b) x.begin in
          let t : TablesStood i j ts = ft (rw block at e.tables) in
          let before : first_at table_at ts (states_at ss (stmt_at body)) - 1 ≡ i
          = let f : first_at table_at ts (states_at ss (stmt_at body)) ≡ i + 1 = rw block t.begin in omega (arith, f) in
          let c : (length cs ≤ most_callables) × ((i : ℕ) (x : Callable) → get_elem? cs i ≡ some x
          → StandsCallable nums ends x.at x) = fc (rw before at e.callables) in
          record {
            version_is = refl;
            headers_few = ph.0;
            headers = ph.1;
            globals_few = pg.0;
            globals = pg.1;
            callables_few = c.0;
            callables = c.1;
            tables_few = t.few;
            tables = t.stand;
            states_few = x.few;
            states = x.stand;
            body = rw (stmt-at b) b;
          }

-- the version stands first
version-held : (nums : List ℕ) (next version : ℕ) → Reads (stands_for version_of) nums 0 next version
    → Holds nums 0 version
unfolding version_of
version-held nums next version r =
    let m : Meant version_of nums 0 next version = reads-stands r in
    let w = within-some 1 2 (get_or nums 0 0) version m.means in
    record { inside = m.inside; is = w.0 }

-- the program that the scan found stands
pub program-stands : (nums directory directory' ends ends' : List ℕ) (r : Scan) (P : Program) (end : ℕ)
    → ScansProgram nums directory directory' ends ends' r → read_program nums 0 ≡ got P (drop end nums) end
    → length nums ≤ most_bytes → length nums ≤ length ends → length nums ≤ length ends' → length directory ≡ 217
    → length directory' ≡ 217 → StandsProgram nums directory' ends' P end
unfolding read_program directory_left
program-stands nums directory directory' ends ends' r P end w e few room room' slots slots' =
    let b : Both _ _ nums 0 end P = both (keeps-stands version_of) (record { gave = e }) in
    let p : PartsStood b.result nums ends' P
    = parts-stand b.result nums ends' b.mid end P b.second
    (scan-ended nums directory directory' ends ends' r P (drop end nums) end w e room) in
    let d : Entries P end directory' = rw (w.parts, e) (entries nums (drop end nums) directory P end e slots) in
    record {
      numbers = few;
      room = room';
      slots = slots';
      headers = in-slots (λ h. h.at) (StandsHeader nums) directory' 0 most_headers P.headers d.headers
          p.headers_few
          d.header p.headers;
      globals = in-slots (λ g. g.at) (StandsGlobal nums) directory' 9 most_globals P.globals d.globals
          p.globals_few
          d.global p.globals;
      callables = in-slots (λ c. c.at) (StandsCallable nums ends') directory' 42 most_callables P.callables
          d.callables
          p.callables_few d.callable p.callables;
      tables = in-slots (λ t. t.at) (StandsTable nums ends') directory' 59 most_tables P.tables d.tables
          p.tables_few
          d.table p.tables;
      body = rw d.body p.body;
      ending = d.ending;
      version = rw p.version_is (version-held nums b.mid b.result b.first);
      states = in-slots (λ s. s.at) (StandsState nums ends') directory' 70 most_states P.states d.states
          p.states_few
          d.state p.states;
    }
