-- The directory: where the parts of a program begin, for the passes that come after. A list has a slot for its count
-- and one for each member it may have; the apply body and the program's end have a slot each. Slots of members that a
-- list has not are left as found; a version without a parser has no states, and their count is 0. The slots behind these
-- are for what a run looks up besides: where each global stands in the store, where each entry begins, the widths of the
-- tables' keys.
use Rattle.std.specs.Prelude.{List, [], ◌∷◌, map, ℕ, ◌+◌, ◌*◌, length}
use Rattle.std.proofs.lemmas.List.Edits.{sets}
use Rattle.rules.specs.Syntax.{Program, HeaderTy, Global, Callable, Table, ParserState}
use Rattle.rules.specs.Syntax.{Stmt, empty, assign, if_else, block, call_stmt, apply, return_value, return, exit, set_valid, set_invalid, extract, verify}
use Rattle.rules.specs.Reading.{Got, got, bad, most_headers, most_globals, most_callables, most_tables, most_states, most_keys}
use Rattle.rules.specs.Lists.{most_entries}

-- a statement's own tag
unfoldable pub stmt_at : Stmt → ℕ
stmt_at (empty at) = at
stmt_at (assign at target place value) = at
stmt_at (if_else at condition then other) = at
stmt_at (block at members) = at
stmt_at (call_stmt at callable arguments) = at
stmt_at (apply at table) = at
stmt_at (return_value at value) = at
stmt_at (return at) = at
stmt_at (exit at) = at
stmt_at (set_valid at global) = at
stmt_at (set_invalid at global) = at
stmt_at (extract at global) = at
stmt_at (verify at condition error) = at

-- the slots: those of the lists' counts, the body's, the end's, the states' count; the first of those for a run; and how
-- many there are
abbrev pub headers_slot : ℕ
headers_slot = 0

abbrev pub globals_slot : ℕ
globals_slot = headers_slot + 1 + most_headers

abbrev pub callables_slot : ℕ
callables_slot = globals_slot + 1 + most_globals

abbrev pub tables_slot : ℕ
tables_slot = callables_slot + 1 + most_callables

abbrev pub body_slot : ℕ
body_slot = tables_slot + 1 + most_tables

abbrev pub end_slot : ℕ
end_slot = body_slot + 1

abbrev pub states_slot : ℕ
states_slot = end_slot + 1

abbrev pub offsets_slot : ℕ
offsets_slot = states_slot + 1 + most_states

abbrev pub entries_slot : ℕ
entries_slot = offsets_slot + most_globals + 1

abbrev pub widths_slot : ℕ
widths_slot = entries_slot + 1 + most_entries

abbrev pub slot_count : ℕ
slot_count = widths_slot + most_keys * most_tables

-- a list from a slot on: its count, then where each member begins
unfoldable pub listed : List ℕ → ℕ → List ℕ → List ℕ
listed slots slot starts = sets slots slot (length starts ∷ starts)

-- what the slots hold once a program is read
unfoldable pub declared : List HeaderTy → List Global → List ℕ → List ℕ
declared headers globals slots = listed (listed slots headers_slot (map (λ h. h.at) headers)) globals_slot
    (map (λ g. g.at) globals)

unfoldable pub defined : List Callable → List Table → List ℕ → List ℕ
defined callables tables slots = listed (listed slots callables_slot (map (λ c. c.at) callables)) tables_slot
    (map (λ t. t.at) tables)

unfoldable pub stated : List ParserState → List ℕ → List ℕ
stated states slots = listed slots states_slot (map (λ s. s.at) states)

unfoldable pub directory_of : Program → ℕ → List ℕ → List ℕ
directory_of p end slots =
    sets (stated p.states (defined p.callables p.tables (declared p.headers p.globals slots))) body_slot
    (stmt_at p.body ∷ end ∷ [])

-- and what they are left with: a fault leaves them as found
unfoldable pub directory_left : Got Program → List ℕ → List ℕ
directory_left (got p left end) slots = directory_of p end slots
directory_left (bad number index) slots = slots
