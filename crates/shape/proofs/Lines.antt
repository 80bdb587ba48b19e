-- From the promise for a whole program to each construct in it: where a program is read, the slots that its scan leaves
-- hold the end of each expression and each statement of the tree (EndedProgram), and so they do for each part of it.
use mathlib.Core.Bool.{Bool, true, false}
use mathlib.Core.Option.{Option, none, some}
use mathlib.Core.Path.{◌≡◌, refl, sym}
use mathlib.Core.List.{List, [], ◌∷◌}
use Prim.Native.Nat.{ℕ, zero, suc, ◌-◌, ◌≤◌}
use native.Mathlib.Omega.{arith}
use lib.ListN.{length, get_or, drop, get_elem?}
use lib.Dec.{ltb}
use borrow.Author.Tests.{ltb-true, ltb-false}
use Rattle.rules.specs.Syntax.{Expr, Stmt, Callable, Key, Numeral, Table, select, ParserState, Program}
use Rattle.rules.specs.Reading.{most_callables, most_tables, most_actions, most_arguments, most_error, most_pairs, most_states}
use Rattle.rules.specs.Reading.{Got, got, bad, Reader, and_then, ◌>>=◌, pure, here, meaning, looked_up, between, stands_for, repeat, list_of, deepest, key_kinds, version_of}
use Rattle.rules.specs.Reading.{TransitionTag, tag_none, tag_accept, tag_reject, tag_lead_to, tag_select, transition_tags, has_parser, read_transition_as, read_transition, read_state, read_states}
use Rattle.rules.specs.Reading.{read_expr, read_stmt, read_key, read_table, read_callable, read_after_version, read_program}
use Rattle.rules.proofs.Readers.{Kept, Keeps, keeps-stands, keeps-between, keeps-list, keeps-key, keeps-numeral, keeps-callable, keeps-table, keeps-program, keeps-pair, keeps-expr, keeps-stmt, keeps-state, keeps-states, keeps_then, keeps-pure, keeps_here, looked-in, looked-out, Given, Gives, gives_then, gives-pure, Starts, starts-callable}
use Rattle.shape.specs.Directory.{stmt_at}
use Rattle.shape.specs.Ends.{expr_at, lay_expr, lay_stmt, first_at, lay_all, key_at, lay_key, callable_at, lay_callable, numeral_at, lay_table, table_at, pair_at, lay_transition, transition_at, state_at, lay_state, states_at, blocks_at, ends_of}
use Rattle.shape.specs.Ends.{EndedExpr, EndedStmt, EndedAll, EndedKey, EndedCallable, EndedTable, EndedTransition, EndedState, EndedProgram, ends_left, ScansProgram}
use Rattle.shape.specs.Scans.{Scan}
use Rattle.shape.specs.Parts.{read_choices, lay_keys, lay_choices, read_default}
use Rattle.shape.specs.Walks.{no_ends, read_defined, ends_defined, read_blocks, ends_blocks}
use Rattle.shape.proofs.Lays.{BegunAt, Begins, begins-repeat, begins-list}
use Rattle.shape.proofs.Exprs.{starts-expr}
use Rattle.shape.proofs.Stmts.{starts-stmt}
use Rattle.shape.proofs.Parts.{keeps-returning, keeps-frame}
use Rattle.shape.proofs.Holders.{starts-key, starts-numeral, keeps-choices, begins-default, make_table, in_two, Frame, make_callable, read_framed, in-three}
use Rattle.shape.proofs.Starts.{starts-tables, starts-states, begins-body}
use Rattle.shape.proofs.Transitions.{starts-pair, begins-transition, states-read, begins-blocks}
use Rattle.shape.proofs.Programs.{Defined, Blocks, tree, read_rest, ends_rest, in_three, three, keeps-declared, keeps-defined}
use Rattle.shape.proofs.Ended.{OrderedExpr, OrderedStmt, Layer, layer-none, layer-both, layer-wide, layer-expr, layer-stmt}
use Rattle.shape.proofs.Orders.{OrderedGot, orders-expr, orders-stmt}

layer-as : {from end : ℕ} {lay other : List ℕ → List ℕ} {E F : List ℕ → Type 0}
    → ((slots : List ℕ) → lay slots ≡ other slots)
    → ((slots : List ℕ) → E slots → F slots) → Layer from end lay E → Layer from end other F
layer-as e f a = record {
  order = a.order;
  long = λ slots. rw (← e slots) (a.long slots);
  others = λ slots k o. rw (← e slots) (a.others slots k o);
  ended = λ slots last h g. f last (a.ended slots last h (λ k l m. rw (e slots) (g k l m)));
}

-- what a reader gives lays the slots from where it starts to where it ends
unfoldable LinedAt : {A : Type 0} → (A → ℕ → List ℕ → List ℕ) → (A → ℕ → List ℕ → Type 0) → ℕ → Got A → Type 0
LinedAt lay E at (got a left next) = Layer at next (lay a next) (E a next)
LinedAt lay E at (bad number index) = Unit

record Lines {A : Type 0} (lay : A → ℕ → List ℕ → List ℕ) (E : A → ℕ → List ℕ → Type 0) (read : Reader A) : Type 0 where
  pub lined : (nums : List ℕ) (at : ℕ) → LinedAt lay E at (read (drop at nums) at)

lines-expr : (version depth : ℕ) → Lines lay_expr EndedExpr (read_expr version depth)
unfolding LinedAt OrderedGot Given
lines-expr version depth = record {
  lined = λ nums at. go at (read_expr version depth (drop at nums) at)
      ((starts-expr version depth).started (drop at nums) at) ((orders-expr version depth).ordered nums at);
}
  where
    go : (at : ℕ) (x : Got Expr) → Given (λ e. expr_at e ≡ at) x → OrderedGot OrderedExpr x
        → LinedAt lay_expr EndedExpr at x
    go at (got e left next) s o = rw (← s) (layer-expr e next o)
    go at (bad fault index) s o = tt

lines-stmt : (version depth : ℕ) → Lines lay_stmt EndedStmt (read_stmt version depth)
unfolding LinedAt OrderedGot Given
lines-stmt version depth = record {
  lined = λ nums at. go at (read_stmt version depth (drop at nums) at)
      ((starts-stmt version depth).started (drop at nums) at) ((orders-stmt version depth).ordered nums at);
}
  where
    go : (at : ℕ) (x : Got Stmt) → Given (λ s. stmt_at s ≡ at) x → OrderedGot OrderedStmt x
        → LinedAt lay_stmt EndedStmt at x
    go at (got s left next) q o = rw (← q) (layer-stmt s next o)
    go at (bad fault index) q o = tt

-- nothing laid
unfoldable pub NoEnded : {A : Type 0} → A → ℕ → List ℕ → Type 0
NoEnded a end slots = Unit

lines_none : {A : Type 0} {read : Reader A} → Keeps read → Lines no_ends NoEnded read
unfolding LinedAt NoEnded no_ends Kept
lines_none {A} {read} h = record { lined = λ nums at. go nums at (read (drop at nums) at) (h.kept nums at) }
  where
    go : (nums : List ℕ) (at : ℕ) (x : Got A) → Kept nums at x → LinedAt no_ends NoEnded at x
    go nums at (got a left next) k = layer-wide at k.later (layer-none next)
    go nums at (bad fault index) k = tt

-- one behind another
module _ {A B C : Type 0} {first : Reader A} {second : Reader B} (make : A → B → C)
    {lay_a : A → ℕ → List ℕ → List ℕ} {lay_b : B → ℕ → List ℕ → List ℕ} (lay : C → ℕ → List ℕ → List ℕ)
    {EA : A → ℕ → List ℕ → Type 0} {EB : B → ℕ → List ℕ → Type 0} (E : C → ℕ → List ℕ → Type 0) (h : Keeps first)
    (nums : List ℕ) (at : ℕ) where
  lined-next : (start : B → ℕ → ℕ)
      → ((a : A) (b : B) (next : ℕ) (slots : List ℕ) → lay_b b next (lay_a a (start b next) slots) ≡ lay
      (make a b) next slots)
      → ((a : A) (b : B) (next : ℕ) (slots : List ℕ) → EA a (start b next) slots × EB b next slots
      → E (make a b) next slots)
      → Begins start second → Lines lay_a EA first → Lines lay_b EB second
      → LinedAt lay E at ((first >>= λ a. second >>= λ b. pure (make a b)) (drop at nums) at)
  unfolding LinedAt BegunAt Kept ◌>>=◌ and_then pure
  lined-next start both tells s l m = go (first (drop at nums) at) (h.kept nums at) (l.lined nums at)
    where
      inner : (n : ℕ) (a : A) (y : Got B) → BegunAt start n y → Layer at n (lay_a a n) (EA a n) → LinedAt lay_b EB n y
          → LinedAt lay E at (and_then y (λ b. pure (make a b)))
      inner n a (got b left next) e la lb =
          layer-as (λ slots. rw e at (both a b next slots)) (λ slots p. tells a b next slots (rw e p))
          (layer-both la lb)
      inner n a (bad fault index) e la lb = tt

      go : (x : Got A) → Kept nums at x → LinedAt lay_a EA at x
          → LinedAt lay E at (and_then x (λ a. second >>= λ b. pure (make a b)))
      go (got a left n) k la =
          rw k.rest (inner n a (second (drop n nums) n) (s.begun (drop n nums) n) la (m.lined nums n))
      go (bad fault index) k la = tt

module _ {A B C : Type 0} {first : Reader A} {second : Reader B} (make : A → B → C)
    {lay_b : B → ℕ → List ℕ → List ℕ} (lay : C → ℕ → List ℕ → List ℕ)
    {EB : B → ℕ → List ℕ → Type 0} (E : C → ℕ → List ℕ → Type 0) (h : Keeps first)
    (nums : List ℕ) (at : ℕ) where
  lined-skip : ((a : A) (b : B) (next : ℕ) (slots : List ℕ) → lay_b b next slots ≡ lay (make a b) next slots)
      → ((a : A) (b : B) (next : ℕ) (slots : List ℕ) → EB b next slots → E (make a b) next slots)
      → Lines lay_b EB second
      → LinedAt lay E at ((first >>= λ a. second >>= λ b. pure (make a b)) (drop at nums) at)
  unfolding LinedAt Kept ◌>>=◌ and_then pure
  lined-skip both tells m = go (first (drop at nums) at) (h.kept nums at)
    where
      inner : (n : ℕ) (a : A) (y : Got B) → at ≤ n → LinedAt lay_b EB n y
          → LinedAt lay E at (and_then y (λ b. pure (make a b)))
      inner n a (got b left next) l lb =
          layer-wide at l (layer-as (λ slots. both a b next slots) (λ slots p. tells a b next slots p) lb)
      inner n a (bad fault index) l lb = tt

      go : (x : Got A) → Kept nums at x → LinedAt lay E at (and_then x (λ a. second >>= λ b. pure (make a b)))
      go (got a left n) k = rw k.rest (inner n a (second (drop n nums) n) k.later (m.lined nums n))
      go (bad fault index) k = tt

-- lists
module _ {A : Type 0} (start : A → ℕ) (lay : A → ℕ → List ℕ → List ℕ) (E : A → ℕ → List ℕ → Type 0) {one : Reader A}
    (h : Keeps one) (s : Starts start one) (l : Lines lay E one) where
  lines-all : (n : ℕ) → Lines (lay_all start lay) (EndedAll start E) (repeat n one)
  unfolding LinedAt repeat pure lay_all EndedAll
  lines-all zero = record { lined = λ nums at. layer-none at }
  lines-all (suc n) = record {
    lined = λ nums at. lined-next (λ a rest. a ∷ rest) (lay_all start lay) (EndedAll start E) h nums at
        (first_at start) (λ a rest next slots. refl) (λ a rest next slots p. p) (begins-repeat n s) l
        (lines-all n);
  }

  lines-list : (least most : ℕ) → Lines (lay_all start lay) (EndedAll start E) (list_of least most one)
  unfolding LinedAt list_of Kept ◌>>=◌ and_then
  lines-list least most = record {
    lined = λ nums at. go nums at (between least most (drop at nums) at) ((keeps-between least most).kept nums at);
  }
    where
      inner : (at n : ℕ) (y : Got (List A)) → at ≤ n → LinedAt (lay_all start lay) (EndedAll start E) n y
          → LinedAt (lay_all start lay) (EndedAll start E) at y
      inner at n (got xs left next) o m = layer-wide at o m
      inner at n (bad fault index) o m = tt

      go : (nums : List ℕ) (at : ℕ) (x : Got ℕ) → Kept nums at x
          → LinedAt (lay_all start lay) (EndedAll start E) at (and_then x (λ n. repeat n one))
      go nums at (got n left next) k =
          rw k.rest (inner at next (repeat n one (drop next nums) next) k.later ((lines-all n).lined nums next))
      go nums at (bad fault index) k = tt

-- what begins later, or lays nothing
lined-behind : {A : Type 0} (lay : A → ℕ → List ℕ → List ℕ) (E : A → ℕ → List ℕ → Type 0) (at : ℕ) (x : Got A)
    → LinedAt lay E (suc at) x → LinedAt lay E at x
unfolding LinedAt
lined-behind lay E at (got a left next) l = layer-wide at (omega arith) l
lined-behind lay E at (bad fault index) l = tt

record LaysNothing {A : Type 0} (lay : A → ℕ → List ℕ → List ℕ) (E : A → ℕ → List ℕ → Type 0) (a : A) : Type 0 where
  pub same : (next : ℕ) (slots : List ℕ) → slots ≡ lay a next slots
  pub told : (next : ℕ) (slots : List ℕ) → E a next slots

lined-nothing : {A : Type 0} {lay : A → ℕ → List ℕ → List ℕ} {E : A → ℕ → List ℕ → Type 0} {read : Reader A}
    → Keeps read → Gives (LaysNothing lay E) read
    → (nums : List ℕ) (at : ℕ) → LinedAt lay E at (read (drop at nums) at)
unfolding LinedAt Given Kept
lined-nothing {A} {lay} {E} {read} h g nums at =
    go (read (drop at nums) at) (h.kept nums at) (g.given (drop at nums) at)
  where
    go : (x : Got A) → Kept nums at x → Given (LaysNothing lay E) x → LinedAt lay E at x
    go (got a left next) k n =
        layer-as (n.same next) (λ slots u. n.told next slots) (layer-wide at k.later (layer-none next))
    go (bad fault index) k n = tt

-- tables
unfoldable EndedKeys : List Key → ℕ → List ℕ → Type 0
EndedKeys ks end slots = EndedAll key_at EndedKey ks end slots

unfoldable EndedChoices : List Key × List Numeral → ℕ → List ℕ → Type 0
EndedChoices p end slots = EndedKeys p.0 (first_at numeral_at p.1 end - 1) slots

module _ (version : ℕ) where
  lines-key : Lines lay_key EndedKey (read_key version)
  unfolding read_key here ◌>>=◌ and_then lay_key EndedKey
  lines-key = record {
    lined = λ nums at. lined-skip (λ kind e. record { at = at; kind = kind; expr = e }) lay_key EndedKey
        (keeps-stands (get_elem? (key_kinds version))) nums at (λ kind e next slots. refl) (λ kind e next slots p. p)
        (lines-expr version deepest);
  }

  lines-keys : Lines lay_keys EndedKeys (list_of 1 4 (read_key version))
  unfolding EndedKeys
  lines-keys = lines-list key_at lay_key EndedKey (keeps-key version) (starts-key version) lines-key 1 4

  lines-choices : Lines lay_choices EndedChoices (read_choices version)
  unfolding read_choices lay_choices EndedChoices no_ends
  lines-choices = record {
    lined = λ nums at. lined-next (λ ks ns. (ks, ns)) lay_choices EndedChoices (keeps-list 1 4 (keeps-key version)) nums
        at (λ ns end. first_at numeral_at ns end - 1) (λ ks ns next slots. refl) (λ ks ns next slots p. p.0)
        (begins-list 1 most_actions (starts-numeral version)) lines-keys
        (lines_none (keeps-list 1 most_actions (keeps-numeral version)));
  }

  keeps-default : Keeps (read_default version)
  unfolding read_default
  keeps-default = keeps_then (keeps-numeral version) λ d. keeps_then keeps_here λ c. keeps_then
      (keeps-list 0 most_arguments (keeps-numeral version)) λ xs. keeps-pure _

  lines-table : Lines lay_table EndedTable (read_table version)
  unfolding lay_choices lay_table make_table no_ends EndedChoices EndedKeys EndedTable
  lines-table = record {
    lined = λ nums at. rw (in_two version nums at [])
        (lined-next (make_table version nums at []) lay_table EndedTable (keeps-choices version nums at []) nums at
        (λ q end. q.0.at) (λ p q next slots. refl) (λ p q next slots e. e.0) (begins-default version nums at [])
        lines-choices (lines_none keeps-default));
  }

  -- callables
  lay_framed : Frame version [] 0 [] × Stmt → ℕ → List ℕ → List ℕ
  lay_framed q end slots = lay_stmt q.1 end slots

  unfoldable pub EndedFramed : Frame version [] 0 [] × Stmt → ℕ → List ℕ → Type 0
  EndedFramed q end slots = EndedStmt q.1 end slots

  lines-callable : Lines lay_callable EndedCallable (read_callable version)
  unfolding lay_framed EndedFramed lay_callable EndedCallable make_callable read_framed
  lines-callable = record {
    lined = λ nums at. rw (in-three version nums at [])
        (lined-skip (make_callable version nums at []) lay_callable EndedCallable (keeps-returning version nums) nums at
        (λ returns q next slots. refl) (λ returns q next slots p. p) (lines-framed nums at));
  }
    where
      lines-framed : (nums : List ℕ) (at : ℕ) → Lines lay_framed EndedFramed (read_framed version nums at [])
      lines-framed nums at = record {
        lined = λ nums₂ i. lined-skip (λ f s. (f, s)) lay_framed EndedFramed (keeps-frame version nums) nums₂ i
            (λ f s next slots. refl) (λ f s next slots p. p) (lines-stmt version deepest);
      }

  -- states
  lined-as : (nums : List ℕ) (at : ℕ) (tag : TransitionTag)
      → LinedAt lay_transition EndedTransition (suc at)
      (read_transition_as version tag at (drop (suc at) nums) (suc at))
  unfolding read_transition_as lay_transition EndedTransition no_ends
  lined-as nums at tag_none = lined-nothing (keeps-pure _) (gives-pure _ _ (record { same = λ next slots. refl; told = λ next slots. tt })) nums (suc at)
  lined-as nums at tag_accept = lined-nothing (keeps-pure _) (gives-pure _ _ (record { same = λ next slots. refl; told = λ next slots. tt })) nums (suc at)
  lined-as nums at tag_reject =
      lined-nothing (keeps_then (keeps-between 0 most_error) λ e. keeps-pure _)
      (gives_then _ λ e. gives-pure _ _ (record { same = λ next slots. refl; told = λ next slots. tt })) nums (suc at)
  lined-as nums at tag_lead_to =
      lined-nothing (keeps_then (keeps-numeral version) λ s. keeps-pure _)
      (gives_then _ λ s. gives-pure _ _ (record { same = λ next slots. refl; told = λ next slots. tt })) nums (suc at)
  lined-as nums at tag_select =
      lined-next (select at) lay_transition EndedTransition (keeps-expr version deepest) nums (suc at)
      (λ ps end. first_at pair_at ps end - 1) (λ e ps next slots. refl) (λ e ps next slots p. p.0)
      (begins-list 0 most_pairs (starts-pair version)) (lines-expr version deepest)
      (lines_none (keeps-list 0 most_pairs (keeps-pair version)))

  lines-transition : Lines lay_transition EndedTransition (read_transition version)
  unfolding LinedAt read_transition here ◌>>=◌ and_then stands_for meaning
  lines-transition = record { lined = λ nums at. go nums at (ltb at (length nums)) refl }
    where
      inner : (nums : List ℕ) (at : ℕ) (x : Option TransitionTag)
          → LinedAt lay_transition EndedTransition at
          (and_then (meaning 4 x (drop (suc at) nums) at) (λ tag. read_transition_as version tag at))
      inner nums at none = tt
      inner nums at (some tag) =
          lined-behind lay_transition EndedTransition at
          (read_transition_as version tag at (drop (suc at) nums) (suc at)) (lined-as nums at tag)

      go : (nums : List ℕ) (at : ℕ) (b : Bool) → ltb at (length nums) ≡ b
          → LinedAt lay_transition EndedTransition at
          (and_then (looked_up 4 (get_elem? (transition_tags version)) (drop at nums) at)
          (λ tag. read_transition_as version tag at))
      go nums at true e =
          rw (looked-in 4 (get_elem? (transition_tags version)) nums at (ltb-true at (length nums) e))
          (inner nums at (get_elem? (transition_tags version) (get_or nums at 0)))
      go nums at false e =
          rw (looked-out 4 (get_elem? (transition_tags version)) nums at (ltb-false at (length nums) e)) tt

  lines-state : Lines lay_state EndedState (read_state version)
  unfolding read_state here ◌>>=◌ and_then lay_state EndedState
  lines-state = record {
    lined = λ nums at. lined-next (λ body t. record { at = at; body = body; transition = t }) lay_state EndedState
        (keeps-stmt version deepest) nums at transition_at (λ body t next slots. refl) (λ body t next slots p. p)
        (begins-transition version) (lines-stmt version deepest) lines-transition;
  }

  -- the program
  unfoldable pub EndedDefined : List Callable × List Table → ℕ → List ℕ → Type 0
  EndedDefined p end slots =
      EndedAll callable_at EndedCallable p.0 (first_at table_at p.1 end - 1) slots
      × EndedAll table_at EndedTable p.1 end slots

  starts-callables : Starts callable_at (read_callable version)
  unfolding callable_at
  starts-callables = starts-callable version

  lines-defined : Lines ends_defined EndedDefined (read_defined version)
  unfolding read_defined ends_defined EndedDefined
  lines-defined = record {
    lined = λ nums at. lined-next (λ cs ts. (cs, ts)) ends_defined EndedDefined
        (keeps-list 0 most_callables (keeps-callable version)) nums at (λ ts end. first_at table_at ts end - 1)
        (λ cs ts next slots. refl) (λ cs ts next slots p. p) (begins-list 0 most_tables (starts-tables version))
        (lines-list callable_at lay_callable EndedCallable
        (keeps-callable version) starts-callables lines-callable 0 most_callables)
        (lines-list table_at lay_table EndedTable (keeps-table version) (starts-tables version) lines-table 0 most_tables);
  }

  unfoldable pub EndedBlocks : List ParserState × Stmt → ℕ → List ℕ → Type 0
  EndedBlocks p end slots = EndedAll state_at EndedState p.0 (stmt_at p.1) slots × EndedStmt p.1 end slots

  lines-states : Lines (lay_all state_at lay_state) (EndedAll state_at EndedState) (read_states version)
  unfolding LinedAt pure lay_all EndedAll
  lines-states = go (has_parser version) refl
    where
      go : (b : Bool) → has_parser version ≡ b
          → Lines (lay_all state_at lay_state) (EndedAll state_at EndedState) (read_states version)
      go true e = rw (states-read version true (sym e))
          (lines-list state_at lay_state EndedState (keeps-state version) (starts-states version) lines-state 1 most_states)
      go false e = rw (states-read version false (sym e)) (record { lined = λ nums at. layer-none at })

  lines-blocks : Lines ends_blocks EndedBlocks (read_blocks version)
  unfolding read_blocks ends_blocks EndedBlocks
  lines-blocks = record {
    lined = λ nums at. lined-next (λ ss s. (ss, s)) ends_blocks EndedBlocks (keeps-states version) nums at
        (λ s end. stmt_at s) (λ ss s next slots. refl) (λ ss s next slots p. p) (begins-body version deepest)
        lines-states (lines-stmt version deepest);
  }

  unfoldable pub EndedRest : Defined version × Blocks version → ℕ → List ℕ → Type 0
  EndedRest q end slots =
      EndedDefined q.0 (states_at q.1.0 (stmt_at q.1.1)) slots × EndedBlocks q.1 end slots

  lines_rest : Lines (ends_rest version) EndedRest (read_rest version)
  unfolding read_rest ends_rest EndedRest
  lines_rest = record {
    lined = λ nums at. lined-next (λ d b. (d, b)) (ends_rest version) EndedRest (keeps-defined version) nums at
        (λ b end. states_at b.0 (stmt_at b.1)) (λ d b next slots. refl) (λ d b next slots p. p)
        (begins-blocks version) lines-defined lines-blocks;
  }

  lines_after : Lines ends_of EndedProgram (read_after_version version)
  unfolding in_three ends_rest ends_defined ends_blocks ends_of blocks_at tree EndedRest EndedDefined EndedBlocks
  lines_after = record {
    lined = λ nums at. rw (three version (drop at nums) at)
        (lined-skip (tree version) ends_of EndedProgram (keeps-declared version) nums at (λ d q next slots. refl)
        (λ d q next slots p. record { callables = p.0.0; tables = p.0.1; states = p.1.0; body = p.1.1 }) lines_rest);
  }

lines-program : Lines ends_of EndedProgram read_program
unfolding LinedAt read_program Kept ◌>>=◌ and_then
lines-program = record {
  lined = λ nums at. go nums at (stands_for version_of (drop at nums) at) ((keeps-stands version_of).kept nums at);
}
  where
    inner : (at n : ℕ) (y : Got Program) → at ≤ n → LinedAt ends_of EndedProgram n y → LinedAt ends_of EndedProgram at y
    inner at n (got p left next) o m = layer-wide at o m
    inner at n (bad fault index) o m = tt

    go : (nums : List ℕ) (at : ℕ) (x : Got ℕ) → Kept nums at x
        → LinedAt ends_of EndedProgram at (and_then x (λ version. read_after_version version))
    go nums at (got v left next) k =
        rw k.rest (inner at next (read_after_version v (drop next nums) next) k.later
        ((lines_after v).lined nums next))
    go nums at (bad fault index) k = tt

-- the laws for the passes that come after
laid-ended : {A : Type 0} {lay : A → ℕ → List ℕ → List ℕ} {E : A → ℕ → List ℕ → Type 0} {read : Reader A} → Keeps read
    → Lines lay E read
    → (nums slots : List ℕ) (at : ℕ) (a : A) (left : List ℕ) (end : ℕ) → read (drop at nums) at ≡ got a left end
    → at ≤ length nums → length nums ≤ length slots → E a end (lay a end slots)
unfolding LinedAt Kept
laid-ended {A} {lay} {E} {read} h l nums slots at a left end e i room =
    let k : Kept nums at (got a left end) = rw e at (h.kept nums at) in
    let m : Layer at end (lay a end) (E a end) = rw e at (l.lined nums at) in
    m.ended slots (lay a end slots) (omega (arith, k.inside i)) (λ j u v. refl)

-- what the slots hold once a program is read and laid
pub program-ended : (nums slots : List ℕ) (p : Program) (left : List ℕ) (end : ℕ) → read_program nums 0 ≡ got p left end
    → length nums ≤ length slots
    → EndedProgram p end (ends_of p end slots)
program-ended nums slots p left end e room =
    laid-ended keeps-program lines-program nums slots 0 p left end e (omega arith) room

-- from what the scan of a program promises
pub scan-ended : (nums directory directory' ends ends' : List ℕ) (r : Scan) (p : Program) (left : List ℕ) (end : ℕ)
    → ScansProgram nums directory directory' ends ends' r → read_program nums 0 ≡ got p left end
    → length nums ≤ length ends
    → EndedProgram p end ends'
unfolding ends_left
scan-ended nums directory directory' ends ends' r p left end w e room =
    rw (w.laid, e) (program-ended nums ends p left end e room)

-- and it keeps as many slots as there were
pub scan-long : (nums directory directory' ends ends' : List ℕ) (r : Scan) (p : Program) (left : List ℕ) (end : ℕ)
    → ScansProgram nums directory directory' ends ends' r → read_program nums 0 ≡ got p left end
    → length ends' ≡ length ends
unfolding ends_left LinedAt
scan-long nums directory directory' ends ends' r p left end w e =
    let m : Layer 0 end (ends_of p end) (EndedProgram p end) = rw e at (lines-program.lined nums 0) in
    rw (w.laid, e) (m.long ends)
