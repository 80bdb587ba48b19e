-- What each slot of the directory holds, for whoever reads it: the counts and the beginnings that the tree carries.
use mathlib.Core.Bool.{Bool, true, false}
use mathlib.Core.Path.{◌≡◌, refl, sym, ◌∙◌}
use mathlib.Core.List.{List, [], ◌∷◌, map}
use Prim.Native.Nat.{ℕ, zero, suc, ◌+◌, ◌≤◌, ◌<◌}
use native.Mathlib.Omega.{arith}
use native.Mathlib.Nat.{add-zero, add-suc, suc-add}
use lib.ListN.{length, get_or, set, length-set, length-map}
use lib.Seq.{sets, length-sets, get_or-set_same, get_or-set_other}
use Rattle.rules.specs.Syntax.{Program}
use Rattle.rules.specs.Reading.{got, read_program, read_after_version, most_headers, most_globals, most_callables, most_tables, most_states, has_parser, read_state, read_states}
use Rattle.rules.proofs.Readers.{Given, Gives, gives_then, gives-with, gives-pure, gives-list}
use Rattle.shape.specs.Directory.{stmt_at, listed, declared, defined, stated, directory_of, headers_slot, globals_slot, callables_slot, tables_slot, body_slot, end_slot, states_slot, slot_count}
use Rattle.shape.proofs.Transitions.{states-read}

-- stores one after the other leave what is below and above them, and put each value in its slot
sets_below : (vs l : List ℕ) (i j : ℕ) → j < i → get_or (sets l i vs) j 0 ≡ get_or l j 0
sets_below [] l i j h = refl
sets_below (v ∷ vs) l i j h = sets_below vs (set l i v) (suc i) j (omega arith) ∙ get_or-set_other l i j v 0 (omega arith)

sets-above : (vs l : List ℕ) (i j : ℕ) → i + length vs ≤ j → get_or (sets l i vs) j 0 ≡ get_or l j 0
sets-above [] l i j h = refl
sets-above (v ∷ vs) l i j h = sets-above vs (set l i v) (suc i) j (omega arith) ∙ get_or-set_other l i j v 0 (omega arith)

sets-in : (vs l : List ℕ) (i k : ℕ) → k < length vs → i + length vs ≤ length l
    → get_or (sets l i vs) (i + k) 0 ≡ get_or vs k 0
sets-in [] l i k h b = absurd (omega arith)
sets-in (v ∷ vs) l i zero h b =
    rw (add-zero i) (sets_below vs (set l i v) (suc i) i (omega arith) ∙ get_or-set_same l i v 0 (omega arith))
sets-in (v ∷ vs) l i (suc k) h b =
    rw (add-suc i k, ← suc-add i k) (sets-in vs (set l i v) (suc i) k (omega arith)
    (rw (length-set l i v) (omega arith)))

-- a list in the directory: its count, its members, and what is below it
module _ (slots : List ℕ) (slot : ℕ) (begins : List ℕ) where
  listed-length : length (listed slots slot begins) ≡ length slots
  unfolding listed
  listed-length = length-sets slots slot (length begins ∷ begins)

  listed_below : (j : ℕ) → j < slot → get_or (listed slots slot begins) j 0 ≡ get_or slots j 0
  unfolding listed
  listed_below j h = sets_below (length begins ∷ begins) slots slot j h

  listed-count : slot + suc (length begins) ≤ length slots → get_or (listed slots slot begins) slot 0 ≡ length begins
  unfolding listed
  listed-count b = rw add-zero at (sets-in (length begins ∷ begins) slots slot 0 (omega arith) b)

  listed-member : (i : ℕ) → slot + suc (length begins) ≤ length slots → i < length begins
      → get_or (listed slots slot begins) (slot + suc i) 0 ≡ get_or begins i 0
  unfolding listed
  listed-member i b h = sets-in (length begins ∷ begins) slots slot (suc i) (omega arith) b

-- a program's lists are no longer than the directory has room for
record Bounded (p : Program) : Type 0 where
  pub headers : length p.headers ≤ most_headers
  pub globals : length p.globals ≤ most_globals
  pub callables : length p.callables ≤ most_callables
  pub tables : length p.tables ≤ most_tables
  pub states : length p.states ≤ most_states

gives-states : (version : ℕ) → Gives (λ ss. length ss ≤ most_states) (read_states version)
gives-states version = go (has_parser version) refl
  where
    go : (b : Bool) → has_parser version ≡ b → Gives (λ ss. length ss ≤ most_states) (read_states version)
    go true e = rw (states-read version true (sym e)) (gives-list 1 most_states (read_state version))
    go false e = rw (states-read version false (sym e)) (gives-pure _ [] (omega arith))

gives-bounded : Gives Bounded read_program
unfolding read_program read_after_version
gives-bounded = gives_then _ λ version. gives-with (gives-list 0 most_headers _) λ hs h.
    gives-with (gives-list 0 most_globals _) λ gs g. gives-with (gives-list 0 most_callables _) λ cs c.
    gives-with (gives-list 0 most_tables _) λ ts t. gives-with (gives-states version) λ ss s. gives_then _ λ body.
    gives-pure _ _ (record { headers = h; globals = g; callables = c; tables = t; states = s })

-- the directory of a program
pub record Entries (p : Program) (end : ℕ) (slots : List ℕ) : Type 0 where
  pub headers : get_or slots headers_slot 0 ≡ length p.headers
  pub header : (i : ℕ) → i < length p.headers
      → get_or slots (headers_slot + 1 + i) 0 ≡ get_or (map (λ h. h.at) p.headers) i 0
  pub globals : get_or slots globals_slot 0 ≡ length p.globals
  pub global : (i : ℕ) → i < length p.globals
      → get_or slots (globals_slot + 1 + i) 0 ≡ get_or (map (λ g. g.at) p.globals) i 0
  pub callables : get_or slots callables_slot 0 ≡ length p.callables
  pub callable : (i : ℕ) → i < length p.callables
      → get_or slots (callables_slot + 1 + i) 0 ≡ get_or (map (λ c. c.at) p.callables) i 0
  pub tables : get_or slots tables_slot 0 ≡ length p.tables
  pub table : (i : ℕ) → i < length p.tables
      → get_or slots (tables_slot + 1 + i) 0 ≡ get_or (map (λ t. t.at) p.tables) i 0
  pub states : get_or slots states_slot 0 ≡ length p.states
  pub state : (i : ℕ) → i < length p.states
      → get_or slots (states_slot + 1 + i) 0 ≡ get_or (map (λ s. s.at) p.states) i 0
  pub body : get_or slots body_slot 0 ≡ stmt_at p.body
  pub ending : get_or slots end_slot 0 ≡ end

-- list by list: each is left alone by those laid after it, in higher slots, and the states by the body below them
module _ (p : Program) (end : ℕ) (slots : List ℕ) (room : length slots ≡ slot_count) (few : Bounded p) where
  abbrev hs : List ℕ
  hs = map (λ h. h.at) p.headers

  abbrev gs : List ℕ
  gs = map (λ g. g.at) p.globals

  abbrev cs : List ℕ
  cs = map (λ c. c.at) p.callables

  abbrev ts : List ℕ
  ts = map (λ t. t.at) p.tables

  abbrev ss : List ℕ
  ss = map (λ s. s.at) p.states

  h : length hs ≤ most_headers
  h = rw (length-map p.headers (λ h. h.at)) few.headers

  g : length gs ≤ most_globals
  g = rw (length-map p.globals (λ g. g.at)) few.globals

  c : length cs ≤ most_callables
  c = rw (length-map p.callables (λ c. c.at)) few.callables

  t : length ts ≤ most_tables
  t = rw (length-map p.tables (λ t. t.at)) few.tables

  s : length ss ≤ most_states
  s = rw (length-map p.states (λ s. s.at)) few.states

  abbrev s₁ : List ℕ
  s₁ = listed slots headers_slot hs

  abbrev s₂ : List ℕ
  s₂ = listed s₁ globals_slot gs

  abbrev s₃ : List ℕ
  s₃ = listed s₂ callables_slot cs

  abbrev s₄ : List ℕ
  s₄ = listed s₃ tables_slot ts

  abbrev s₅ : List ℕ
  s₅ = listed s₄ states_slot ss

  abbrev all : List ℕ
  all = sets s₅ body_slot (stmt_at p.body ∷ end ∷ [])

  room₁ : length s₁ ≡ slot_count
  room₁ = listed-length slots headers_slot hs ∙ room

  room₂ : length s₂ ≡ slot_count
  room₂ = listed-length s₁ globals_slot gs ∙ room₁

  room₃ : length s₃ ≡ slot_count
  room₃ = listed-length s₂ callables_slot cs ∙ room₂

  room₄ : length s₄ ≡ slot_count
  room₄ = listed-length s₃ tables_slot ts ∙ room₃

  room₅ : length s₅ ≡ slot_count
  room₅ = listed-length s₄ states_slot ss ∙ room₄

  kept₅ : (j : ℕ) → states_slot ≤ j → get_or all j 0 ≡ get_or s₅ j 0
  kept₅ j l = sets-above (stmt_at p.body ∷ end ∷ []) s₅ body_slot j (omega arith)

  kept₄ : (j : ℕ) → j < body_slot → get_or all j 0 ≡ get_or s₄ j 0
  kept₄ j l =
      sets_below (stmt_at p.body ∷ end ∷ []) s₅ body_slot j l ∙ listed_below s₄ states_slot ss j (omega arith)

  kept₃ : (j : ℕ) → j < tables_slot → get_or all j 0 ≡ get_or s₃ j 0
  kept₃ j l = kept₄ j (omega arith) ∙ listed_below s₃ tables_slot ts j l

  kept₂ : (j : ℕ) → j < callables_slot → get_or all j 0 ≡ get_or s₂ j 0
  kept₂ j l = kept₃ j (omega arith) ∙ listed_below s₂ callables_slot cs j l

  kept₁ : (j : ℕ) → j < globals_slot → get_or all j 0 ≡ get_or s₁ j 0
  kept₁ j l = kept₂ j (omega arith) ∙ listed_below s₁ globals_slot gs j l

  headers-count : get_or all headers_slot 0 ≡ length hs
  headers-count = kept₁ headers_slot (omega arith) ∙ listed-count slots headers_slot hs (rw room (omega (arith, h)))

  header_at : (i : ℕ) → i < length hs → get_or all (headers_slot + 1 + i) 0 ≡ get_or hs i 0
  header_at i l = let e : headers_slot + 1 + i ≡ headers_slot + suc i = omega arith in
      kept₁ (headers_slot + 1 + i) (omega (arith, h))
      ∙ rw e (listed-member slots headers_slot hs i (rw room (omega (arith, h))) l)

  globals-count : get_or all globals_slot 0 ≡ length gs
  globals-count = kept₂ globals_slot (omega arith) ∙ listed-count s₁ globals_slot gs (rw room₁ (omega (arith, g)))

  global-at : (i : ℕ) → i < length gs → get_or all (globals_slot + 1 + i) 0 ≡ get_or gs i 0
  global-at i l = let e : globals_slot + 1 + i ≡ globals_slot + suc i = omega arith in
      kept₂ (globals_slot + 1 + i) (omega (arith, g))
      ∙ rw e (listed-member s₁ globals_slot gs i (rw room₁ (omega (arith, g))) l)

  callables-count : get_or all callables_slot 0 ≡ length cs
  callables-count = kept₃ callables_slot (omega arith) ∙ listed-count s₂ callables_slot cs (rw room₂ (omega (arith, c)))

  callable-at : (i : ℕ) → i < length cs → get_or all (callables_slot + 1 + i) 0 ≡ get_or cs i 0
  callable-at i l = let e : callables_slot + 1 + i ≡ callables_slot + suc i = omega arith in
      kept₃ (callables_slot + 1 + i) (omega (arith, c))
      ∙ rw e (listed-member s₂ callables_slot cs i (rw room₂ (omega (arith, c))) l)

  tables-count : get_or all tables_slot 0 ≡ length ts
  tables-count = kept₄ tables_slot (omega arith) ∙ listed-count s₃ tables_slot ts (rw room₃ (omega (arith, t)))

  table_at : (i : ℕ) → i < length ts → get_or all (tables_slot + 1 + i) 0 ≡ get_or ts i 0
  table_at i l = let e : tables_slot + 1 + i ≡ tables_slot + suc i = omega arith in
      kept₄ (tables_slot + 1 + i) (omega (arith, t))
      ∙ rw e (listed-member s₃ tables_slot ts i (rw room₃ (omega (arith, t))) l)

  states-count : get_or all states_slot 0 ≡ length ss
  states-count = kept₅ states_slot (omega arith) ∙ listed-count s₄ states_slot ss (rw room₄ (omega (arith, s)))

  state-at : (i : ℕ) → i < length ss → get_or all (states_slot + 1 + i) 0 ≡ get_or ss i 0
  state-at i l = let e : states_slot + 1 + i ≡ states_slot + suc i = omega arith in
      kept₅ (states_slot + 1 + i) (omega arith)
      ∙ rw e (listed-member s₄ states_slot ss i (rw room₄ (omega (arith, s))) l)

  body_is : get_or all body_slot 0 ≡ stmt_at p.body
  body_is = sets-in (stmt_at p.body ∷ end ∷ []) s₅ body_slot 0 (omega arith) (rw room₅ (omega arith))

  end_is : get_or all end_slot 0 ≡ end
  end_is = sets-in (stmt_at p.body ∷ end ∷ []) s₅ body_slot 1 (omega arith) (rw room₅ (omega arith))

  laid-entries : Entries p end all
  laid-entries = record {
    headers = headers-count ∙ length-map p.headers (λ h. h.at);
    header = λ i l. header_at i (rw (length-map p.headers (λ h. h.at)) l);
    globals = globals-count ∙ length-map p.globals (λ g. g.at);
    global = λ i l. global-at i (rw (length-map p.globals (λ g. g.at)) l);
    callables = callables-count ∙ length-map p.callables (λ c. c.at);
    callable = λ i l. callable-at i (rw (length-map p.callables (λ c. c.at)) l);
    tables = tables-count ∙ length-map p.tables (λ t. t.at);
    table = λ i l. table_at i (rw (length-map p.tables (λ t. t.at)) l);
    states = states-count ∙ length-map p.states (λ s. s.at);
    state = λ i l. state-at i (rw (length-map p.states (λ s. s.at)) l);
    body = body_is;
    ending = end_is;
  }

-- the directory that a program that reads leaves
pub entries : (nums left slots : List ℕ) (p : Program) (end : ℕ) → read_program nums 0 ≡ got p left end
    → length slots ≡ slot_count
    → Entries p end (directory_of p end slots)
unfolding Given directory_of declared defined stated
entries nums left slots p end e room = laid-entries p end slots room (rw e at (gives-bounded.given nums 0))

-- which has as many slots as it had
declared-long : (p : Program) (slots : List ℕ) → length (declared p.headers p.globals slots) ≡ length slots
unfolding declared
declared-long p slots =
    listed-length (listed slots headers_slot (map (λ h. h.at) p.headers)) globals_slot (map (λ g. g.at) p.globals)
    ∙ listed-length slots headers_slot (map (λ h. h.at) p.headers)

defined-long : (p : Program) (slots : List ℕ) → length (defined p.callables p.tables slots) ≡ length slots
unfolding defined
defined-long p slots =
    listed-length (listed slots callables_slot (map (λ c. c.at) p.callables)) tables_slot
    (map (λ t. t.at) p.tables)
    ∙ listed-length slots callables_slot (map (λ c. c.at) p.callables)

stated-long : (p : Program) (slots : List ℕ) → length (stated p.states slots) ≡ length slots
unfolding stated
stated-long p slots = listed-length slots states_slot (map (λ s. s.at) p.states)

pub directory-long : (p : Program) (end : ℕ) (slots : List ℕ) → length (directory_of p end slots) ≡ length slots
unfolding directory_of
directory-long p end slots =
    length-sets (stated p.states (defined p.callables p.tables (declared p.headers p.globals slots)))
    body_slot (stmt_at p.body ∷ end ∷ [])
    ∙ stated-long p (defined p.callables p.tables (declared p.headers p.globals slots))
    ∙ defined-long p (declared p.headers p.globals slots) ∙ declared-long p slots
