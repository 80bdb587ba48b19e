-- A program: what follows the version, part after part, and the version.
use mathlib.Core.Path.{◌≡◌, refl, sym, ◌∙◌}
use mathlib.Core.List.{List}
use Prim.Native.Nat.{ℕ}
use native.Mathlib.Omega.{arith}
use lib.ListN.{drop, replicate}
use Rattle.rules.specs.Syntax.{Stmt, HeaderTy, Global, Callable, Table, ParserState, Program}
use Rattle.rules.specs.Reading.{Got, got, bad, Reader, and_then, ◌>>=◌, pure, between, list_of, deepest, most_headers, most_globals, most_callables, most_tables}
use Rattle.rules.specs.Reading.{read_stmt, read_header, read_global, read_callable, read_table, read_states, read_after_version, version_of, read_program}
use Rattle.rules.proofs.Readers.{Kept, Keeps, keeps_then, keeps-pure, keeps-between, keeps-list, keeps-header, keeps-global, keeps-callable, keeps-table}
use Rattle.shape.specs.Scans.{forget, scan_of, Scan, Past, Fault}
use Rattle.shape.specs.Leads.{valued, value_of, Value, Of, Unread}
use Rattle.shape.specs.Directory.{stmt_at, directory_of, directory_left}
use Rattle.shape.specs.Ends.{most_numbers, states_at, blocks_at, ends_of, ends_left, ScansProgram}
use Rattle.shape.specs.Walks.{Laid, Lays, no_ends, ends_defined, ends_blocks}
use Rattle.shape.specs.Walks.{read_declared, lay_declared, read_defined, lay_defined, lay_states, lay_body, read_blocks, lay_blocks}
use Rattle.shape.proofs.Lays.{lays-then, lays-fault, lays-as, lays-next, pair_then, then_same}
use Rattle.shape.proofs.Transitions.{begins-blocks}

-- what follows the version, in three parts
module _ (version : ℕ) where
  abbrev pub Declared : Type 0
  Declared = List HeaderTy × List Global

  abbrev pub Defined : Type 0
  Defined = List Callable × List Table

  abbrev pub Blocks : Type 0
  Blocks = List ParserState × Stmt

  unfoldable pub tree : Declared → Defined × Blocks → Program
  tree d q = record {
    version = version;
    headers = d.0;
    globals = d.1;
    callables = q.0.0;
    tables = q.0.1;
    states = q.1.0;
    body = q.1.1;
  }

  unfoldable pub read_rest : Reader (Defined × Blocks)
  read_rest = read_defined version >>= λ f. read_blocks version >>= λ b. pure (f, b)

  lay_rest : Defined × Blocks → ℕ → List ℕ → List ℕ
  lay_rest q end slots = lay_blocks q.1 end (lay_defined q.0 0 slots)

  unfoldable pub ends_rest : Defined × Blocks → ℕ → List ℕ → List ℕ
  ends_rest q end slots =
      ends_blocks q.1 end (ends_defined q.0 (states_at q.1.0 (stmt_at q.1.1)) slots)

  unfoldable pub in_three : Reader Program
  in_three = read_declared version >>= λ d. read_rest >>= λ q. pure (tree d q)

  in_blocks : Declared → Defined → Reader Program
  in_blocks d f = read_states version >>= λ states. read_stmt version deepest >>= λ body. pure (tree d (f, (states, body)))

  in_one : Declared → Reader Program
  in_one d = list_of 0 most_callables (read_callable version) >>= λ callables.
      list_of 0 most_tables (read_table version) >>= λ tables. in_blocks d (callables, tables)

  one-two-three : (d : Declared) (left : List ℕ) (at : ℕ)
      → in_one d left at ≡ (read_rest >>= λ q. pure (tree d q)) left at
  unfolding in_one in_blocks read_rest read_defined read_blocks
  one-two-three d left at =
      pair_then (list_of 0 most_callables (read_callable version)) (list_of 0 most_tables (read_table version))
      (λ callables tables. in_blocks d (callables, tables)) left at
      ∙ then_same (read_defined version) left at (in_blocks d) (λ f. read_blocks version >>= λ b. pure (tree d (f, b)))
      (λ f rest i. pair_then (read_states version) (read_stmt version deepest)
      (λ states body. pure (tree d (f, (states, body)))) rest i)
      ∙ pair_then (read_defined version) (read_blocks version) (λ f b. pure (tree d (f, b))) left at

  pub three : (left : List ℕ) (at : ℕ) → read_after_version version left at ≡ in_three left at
  unfolding in_three in_one in_blocks tree read_after_version read_declared
  three left at =
      pair_then (list_of 0 most_headers (read_header version)) (list_of 0 most_globals (read_global version))
      (λ headers globals. in_one (headers, globals)) left at
      ∙ then_same (read_declared version) left at in_one (λ d. read_rest >>= λ q. pure (tree d q)) one-two-three

  pub keeps-declared : Keeps (read_declared version)
  unfolding read_declared
  keeps-declared =
      keeps_then (keeps-list 0 most_headers (keeps-header version)) λ hs.
      keeps_then (keeps-list 0 most_globals (keeps-global version))
      λ gs. keeps-pure _

  pub keeps-defined : Keeps (read_defined version)
  unfolding read_defined
  keeps-defined =
      keeps_then (keeps-list 0 most_callables (keeps-callable version)) λ cs.
      keeps_then (keeps-list 0 most_tables (keeps-table version))
      λ ts. keeps-pure _

module _ (version : ℕ) (nums : List ℕ) (n : ℕ) (mid third : List ℕ) (b : Scan) where
  rest-lays : (m : ℕ) (filled : List ℕ) (r : Scan) → Lays (read_defined version) lay_defined nums n mid third b
      → b ≡ Past m
      → Lays (read_blocks version) lay_blocks nums m third filled r
      → Lays (read_rest version) (lay_rest version) nums n mid filled r
  unfolding read_rest lay_rest lay_defined
  rest-lays m filled r w p v =
      lays-then (λ d b. (d, b)) (lay_rest version) (λ d b k next slots. refl) (keeps-defined version) w p v

module _ (version : ℕ) (nums : List ℕ) (at : ℕ) (found mid : List ℕ) (a : Scan) where
  all-lays : (n : ℕ) (filled : List ℕ) (r : Scan) → Lays (read_declared version) lay_declared nums at found mid a
      → a ≡ Past n
      → Lays (read_rest version) (lay_rest version) nums n mid filled r
      → Lays (read_after_version version) directory_of nums at found filled r
  unfolding in_three lay_rest lay_declared lay_defined lay_blocks lay_states lay_body directory_of tree
  all-lays n filled r w p v = lays-as (three version (drop at nums) at)
      (lays-then (tree version) directory_of (λ d q k next slots. refl) (keeps-declared version) w p v)

  pub after-declared : (f i : ℕ) → Lays (read_declared version) lay_declared nums at found mid a → a ≡ Fault f i
      → Lays (read_after_version version) directory_of nums at found mid (Fault f i)
  unfolding in_three
  after-declared f i w p = lays-as (three version (drop at nums) at) (lays-fault _ directory_of found w p)

  pub after-declared-ends : (f i : ℕ) → Lays (read_declared version) no_ends nums at found mid a → a ≡ Fault f i
      → Lays (read_after_version version) ends_of nums at found mid (Fault f i)
  unfolding in_three
  after-declared-ends f i w p = lays-as (three version (drop at nums) at) (lays-fault _ ends_of found w p)

  module _ (n : ℕ) (third : List ℕ) (b : Scan) where
    pub after-past : (m : ℕ) (filled : List ℕ) (r : Scan)
        → Lays (read_declared version) lay_declared nums at found mid a → a ≡ Past n
        → Lays (read_defined version) lay_defined nums n mid third b
        → b ≡ Past m → Lays (read_blocks version) lay_blocks nums m third filled r
        → Lays (read_after_version version) directory_of nums at found filled r
    after-past m filled r w p v q u = all-lays n filled r w p (rest-lays version nums n mid third b m filled r v q u)

    pub after-defined : (f i : ℕ) → Lays (read_declared version) lay_declared nums at found mid a → a ≡ Past n
        → Lays (read_defined version) lay_defined nums n mid third b
        → b ≡ Fault f i → Lays (read_after_version version) directory_of nums at found third (Fault f i)
    unfolding in_three read_rest lay_rest lay_declared lay_defined lay_blocks lay_states lay_body directory_of tree
    after-defined f i w p v q = lays-as (three version (drop at nums) at)
        (lays-then (tree version) directory_of (λ d q k next slots. refl) (keeps-declared version) w p
        (lays-fault _ (lay_rest version) mid v q))

    -- and the ends
    pub after-ends : (m : ℕ) (filled : List ℕ) (r : Scan)
        → Lays (read_declared version) no_ends nums at found mid a → a ≡ Past n
        → Lays (read_defined version) ends_defined nums n mid third b
        → b ≡ Past m → Lays (read_blocks version) ends_blocks nums m third filled r
        → Lays (read_after_version version) ends_of nums at found filled r
    unfolding in_three read_rest ends_rest ends_defined ends_blocks ends_of blocks_at tree no_ends
    after-ends m filled r w p v q u = lays-as (three version (drop at nums) at)
        (lays-then (tree version) ends_of (λ d q k next slots. refl) (keeps-declared version) w p
        (lays-next (λ d b. (d, b)) (ends_rest version) (λ b end. states_at b.0 (stmt_at b.1))
        (λ d b next slots. refl) (keeps-defined version) (begins-blocks version) v q u))

    pub after-defined-ends : (f i : ℕ) → Lays (read_declared version) no_ends nums at found mid a → a ≡ Past n
        → Lays (read_defined version) ends_defined nums n mid third b
        → b ≡ Fault f i → Lays (read_after_version version) ends_of nums at found third (Fault f i)
    unfolding in_three read_rest ends_rest ends_defined ends_blocks ends_of blocks_at tree no_ends
    after-defined-ends f i w p v q = lays-as (three version (drop at nums) at)
        (lays-then (tree version) ends_of (λ d q k next slots. refl) (keeps-declared version) w p
        (lays-fault _ (ends_rest version) mid v q))

-- the version, and the program
module _ (lay : Program → ℕ → List ℕ → List ℕ) (nums found : List ℕ) (v : Value) (q : v ≡ value_of 1 2 nums 0) where
  pub version-past : (n next : ℕ) (filled : List ℕ) (r : Scan) → v ≡ Of n next
      → Lays (read_after_version n) lay nums next found filled r
      → Lays read_program lay nums 0 found filled r
  unfolding read_program version_of between value_of valued scan_of Kept ◌>>=◌ and_then
  version-past n next filled r p w = go (between 1 2 (drop 0 nums) 0) refl ((keeps-between 1 2).kept nums 0) (sym q ∙ p)
    where
      go : (y : Got ℕ) → between 1 2 (drop 0 nums) 0 ≡ y → Kept nums 0 y → valued y ≡ Of n next
          → Lays read_program lay nums 0 found filled r
      go (bad fault index) e k c = let z : ◌≡◌ {A = ℕ} 0 1 = cc in absurd (omega arith)
      go (got m left after) e k c =
          let u : m ≡ n = cc in
          let o : after ≡ next = cc in
          record { scan = w.scan ∙ rw (e, k.rest, u, o); laid = rw (e, k.rest, u, o) w.laid }

  pub version-fault : (f i : ℕ) → v ≡ Unread f i → Lays read_program lay nums 0 found found (Fault f i)
  unfolding read_program version_of between value_of valued scan_of forget Laid ◌>>=◌ and_then
  version-fault f i p = go (between 1 2 (drop 0 nums) 0) refl (sym q ∙ p)
    where
      go : (y : Got ℕ) → between 1 2 (drop 0 nums) 0 ≡ y → valued y ≡ Unread f i
          → Lays read_program lay nums 0 found found (Fault f i)
      go (bad fault index) e c =
          let u : fault ≡ f = cc in
          let o : index ≡ i = cc in
          record { scan = rw (e, u, o); laid = rw e tt }
      go (got m left after) e c = let z : ◌≡◌ {A = ℕ} 0 1 = cc in absurd (omega arith)

module _ (nums found filled slots laid : List ℕ) (a : Scan)
    (w : Lays read_program directory_of nums 0 found filled a) (v : Lays read_program ends_of nums 0 slots laid a) where
  pub program-past : (end : ℕ) → a ≡ Past end → ScansProgram nums found filled slots laid (Past end)
  unfolding scan_of forget Laid directory_left ends_left
  program-past end p = record {
    answer = sym p ∙ w.scan;
    parts = go (read_program nums 0) w.laid (sym w.scan ∙ p);
    laid = ends (read_program nums 0) v.laid (sym w.scan ∙ p);
  }
    where
      go : (y : Got Program) → Laid y directory_of found filled → forget y ≡ Past end → filled ≡ directory_left y found
      go (got tree left next) l e = l
      go (bad fault index) l e = let z : ◌≡◌ {A = ℕ} 0 1 = cc in absurd (omega arith)

      ends : (y : Got Program) → Laid y ends_of slots laid → forget y ≡ Past end → laid ≡ ends_left y slots
      ends (got tree left next) l e = l
      ends (bad fault index) l e = let z : ◌≡◌ {A = ℕ} 0 1 = cc in absurd (omega arith)

  pub program-fault : (f i : ℕ) → a ≡ Fault f i → ScansProgram nums found found slots (replicate most_numbers 0) (Fault f i)
  unfolding scan_of forget Laid directory_left ends_left
  program-fault f i p = record {
    answer = sym p ∙ w.scan;
    parts = go (read_program nums 0) (sym w.scan ∙ p);
    laid = ends (read_program nums 0) (sym w.scan ∙ p);
  }
    where
      go : (y : Got Program) → forget y ≡ Fault f i → found ≡ directory_left y found
      go (got tree left next) e = let z : ◌≡◌ {A = ℕ} 0 1 = cc in absurd (omega arith)
      go (bad fault index) e = refl

      ends : (y : Got Program) → forget y ≡ Fault f i → replicate most_numbers 0 ≡ ends_left y slots
      ends (got tree left next) e = let z : ◌≡◌ {A = ℕ} 0 1 = cc in absurd (omega arith)
      ends (bad fault index) e = refl

pub ruleset programs = (
  after-past,
  after-defined,
  after-declared,
  after-ends,
  after-defined-ends,
  after-declared-ends,
  version-past,
  version-fault,
  program-past,
  program-fault,
)
