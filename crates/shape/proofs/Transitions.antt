-- The parser's states: what a transition and a state scan to, the ends that they lay; the states and the apply body.
use mathlib.Core.Bool.{Bool, true, false}
use mathlib.Core.Option.{Option, none, some}
use mathlib.Core.Path.{◌≡◌, refl, sym, ◌∙◌}
use mathlib.Core.List.{List, [], ◌∷◌}
use Prim.Native.Nat.{ℕ, zero, suc, ◌-◌, ◌≤◌}
use native.Mathlib.Omega.{arith}
use native.Mathlib.Numerals.{sub-one}
use lib.ListN.{length, drop, set, get_elem?}
use lib.Dec.{leb}
use borrow.Author.Tests.{leb-true}
use Rattle.rules.specs.Syntax.{Stmt, Numeral, Pair, no_transition, accept, reject, lead_to, select, ParserState}
use Rattle.rules.specs.Reading.{Got, got, bad, Reader, and_then, ◌>>=◌, pure, here, meaning, looked_up, stands_for, between, within, list_of, deepest, most_error, most_pairs, most_states}
use Rattle.rules.specs.Reading.{TransitionTag, tag_none, tag_accept, tag_reject, tag_lead_to, tag_select, transition_tags, has_parser}
use Rattle.rules.specs.Reading.{read_expr, read_stmt, read_numeral, read_pair, read_transition_as, read_transition, read_state, read_states}
use Rattle.rules.proofs.Readers.{keeps-expr, keeps-stmt, keeps-states, looked-in, Given, Gives, gives_then, gives-pure, gives_as, gives-with, gives-repeat, Starts}
use Rattle.std.specs.Prelude.{Result}
use Rattle.rules.specs.declared.Fault as rules
use Rattle.shape.specs.Scans.{forget, scan_of, Scan, Past, Fault}
use Rattle.shape.specs.Directory.{stmt_at, listed, stated, states_slot}
use Rattle.shape.specs.Leads.{value_of, Of, Unread}
use Rattle.shape.specs.Parts.{Tells, Lists, read_select, lay_select}
use Rattle.shape.specs.Ends.{lay_expr, lay_stmt, first_at, lay_all, numeral_at, pair_at, lay_transition, transition_at, state_at, lay_state, states_at}
use Rattle.shape.specs.Walks.{Laid, Lays, no_ends, laid_by, Called, TellsPart, WalksList, lay_states, lay_body, read_blocks, lay_blocks, ends_blocks}
use Rattle.shape.proofs.Laws.{scan-here, scan-fault, spans-scan, spans-list, between-fault, IsValue, value-inv}
use Rattle.shape.proofs.Lays.{lays-then, lays-fault, lays-as, lays-none, lays-scan, lays-made, BegunAt, Begins, begins-list, begins-stands, lays-next, pair_then}
use Rattle.shape.proofs.Parts.{scans-pairs}
use Rattle.shape.proofs.Holders.{starts-numeral}
use Rattle.shape.proofs.Starts.{states-lay, state-ends, starts-states, begins-body}

-- a pair begins with its value
pub starts-pair : (version : ℕ) → Starts pair_at (read_pair version)
unfolding read_pair pair_at Given numeral_at ◌>>=◌ and_then pure
starts-pair version = record {
  started = λ left at. go at (read_numeral version left at) ((starts-numeral version).started left at);
}
  where
    inner : (at : ℕ) (v : Numeral) (y : Got Numeral) → v.at ≡ at
        → Given (λ (p : Pair). p.value.at ≡ at) (and_then y (λ s. pure (record { value = v; state = s })))
    inner at v (got s left next) e = e
    inner at v (bad fault index) e = tt

    go : (at : ℕ) (x : Got Numeral) → Given (λ n. n.at ≡ at) x
        → Given (λ (p : Pair). p.value.at ≡ at)
        (and_then x (λ v. read_numeral version >>= λ s. pure (record { value = v; state = s })))
    go at (got v left next) e = inner at v (read_numeral version left next) e
    go at (bad fault index) e = tt

-- selects
module _ (version : ℕ) (nums : List ℕ) (at : ℕ) (found filled : List ℕ) where
  pub select-past : (n : ℕ) (a r : Scan) (pair : ℕ → Result ℕ rules.Fault → Type 0)
      → Lays (read_expr version deepest) lay_expr nums at found filled a → a ≡ Past n
      → Lists pair 0 most_pairs nums n r → Tells pair (scan_of (read_pair version) nums)
      → Lays (read_select version) lay_select nums at found filled r
  unfolding read_select lay_select no_ends
  select-past n a r pair w p v t =
      lays-next (λ e ps. (e, ps)) lay_select (λ ps end. first_at pair_at ps end - 1) (λ e ps end slots. refl)
      (keeps-expr version deepest) (begins-list 0 most_pairs (starts-pair version)) w p
      (lays-scan filled (v.scan _ t ∙ sym ((scans-pairs version nums 0 most_pairs).scan n)))

  pub select-fault : (f i : ℕ) → Lays (read_expr version deepest) lay_expr nums at found filled (Fault f i)
      → Lays (read_select version) lay_select nums at found filled (Fault f i)
  unfolding read_select
  select-fault f i w = lays-fault _ lay_select found w refl

-- transitions, by the number of their tag
module _ (version : ℕ) (nums : List ℕ) (at n next : ℕ) (found : List ℕ) (e : Of n next ≡ value_of 0 4 nums at) where
  tag_read : (tag : TransitionTag) → get_elem? (transition_tags version) n ≡ some tag
      → read_transition version (drop at nums) at ≡ read_transition_as version tag at (drop next nums) next
  unfolding read_transition here ◌>>=◌ and_then stands_for meaning
  tag_read tag q =
      let i : IsValue 0 4 nums at n next = value-inv 0 4 nums at n next (sym e) in
      rw (looked-in 4 (get_elem? (transition_tags version)) nums at i.inside, i.same, q, ← i.after)

  pub transition-reject : (r : Scan) → n ≡ 2 → r ≡ scan_of (between 0 most_error) nums next
      → Lays (read_transition version) lay_transition nums at found found r
  unfolding read_transition_as lay_transition no_ends
  transition-reject r q h =
      lays-as (tag_read tag_reject (rw q)) (lays-made reject lay_transition (λ e end slots. refl) (lays-scan found h))

  pub transition-lead : (r : Scan) → n ≡ 3 → r ≡ scan_of (read_numeral version) nums next
      → Lays (read_transition version) lay_transition nums at found found r
  unfolding read_transition_as lay_transition no_ends
  transition-lead r q h =
      lays-as (tag_read tag_lead_to (rw q)) (lays-made lead_to lay_transition (λ s end slots. refl) (lays-scan found h))

  pub transition-select : (filled : List ℕ) (r : Scan) → n ≡ 4
      → Lays (read_select version) lay_select nums next found filled r
      → Lays (read_transition version) lay_transition nums at found filled r
  unfolding read_transition_as read_select lay_transition lay_select
  transition-select filled r q w =
      lays-as (tag_read tag_select (rw q) ∙ pair_then (read_expr version deepest) (list_of 0 most_pairs (read_pair version))
      (λ e ps. pure (select at e ps)) (drop next nums) next)
      (lays-made (λ s. select at s.0 s.1) lay_transition (λ s end slots. refl) w)

  pub transition-bare : (n ≡ 2 → ⊥) → (n ≡ 3 → ⊥) → (n ≡ 4 → ⊥)
      → Lays (read_transition version) lay_transition nums at found found (Past next)
  unfolding read_transition_as lay_transition scan_of forget Laid pure
  transition-bare a b c = go n refl
    where
      go : (m : ℕ) → n ≡ m → Lays (read_transition version) lay_transition nums at found found (Past next)
      go zero q = lays-as {other = pure no_transition} (tag_read tag_none (rw q)) (record { scan = refl; laid = refl })
      go (suc zero) q = lays-as {other = pure accept} (tag_read tag_accept (rw q)) (record { scan = refl; laid = refl })
      go (suc (suc m)) q =
          let i : IsValue 0 4 nums at n next = value-inv 0 4 nums at n next (sym e) in
          absurd (omega (arith, i.high, a, b, c))

pub transition-fault : (version : ℕ) (nums : List ℕ) (at f i : ℕ) (found : List ℕ) → Unread f i ≡ value_of 0 4 nums at
    → Lays (read_transition version) lay_transition nums at found found (Fault f i)
unfolding read_transition
transition-fault version nums at f i found e =
    lays-none (read_transition version) lay_transition nums at f i found found
    (sym (scan-here nums at (λ j. stands_for (get_elem? (transition_tags version)) >>= λ tag. read_transition_as version tag j)
    ∙ scan-fault (stands_for (get_elem? (transition_tags version))) (λ tag. read_transition_as version tag at) nums at f i
    (spans-scan nums at (spans-list (transition_tags version) 4 refl) ∙ sym (between-fault 0 4 nums at f i (Unread f i) e refl))))

pub ruleset transitions = (
  select-past,
  select-fault,
  transition-reject,
  transition-lead,
  transition-select,
  transition-bare,
  transition-fault,
)

-- where a transition begins
begun-given : {A : Type 0} (start : A → ℕ → ℕ) (at : ℕ) {read : Reader A}
    → Gives (λ a. (end : ℕ) → start a end ≡ at) read → (left : List ℕ) (from : ℕ) → BegunAt start at (read left from)
unfolding BegunAt Given
begun-given {A} start at {read} g left from = go (read left from) (g.given left from)
  where
    go : (x : Got A) → Given (λ a. (end : ℕ) → start a end ≡ at) x → BegunAt start at x
    go (got a rest next) h = h next
    go (bad fault index) h = tt

begins-as : (version : ℕ) (tag : TransitionTag) (left : List ℕ) (at : ℕ)
    → BegunAt transition_at at (read_transition_as version tag at left (suc at))
unfolding read_transition_as BegunAt transition_at Given numeral_at between ◌>>=◌ and_then pure
begins-as version tag_none left at = sub-one (suc at)
begins-as version tag_accept left at = sub-one (suc at)
begins-as version tag_reject left at =
    go (between 0 most_error left (suc at)) ((begins-stands _).begun left (suc at))
  where
    go : (x : Got ℕ) → BegunAt (λ e end. end - 1) (suc at) x
        → BegunAt transition_at at (and_then x (λ e. pure (reject e)))
    go (got e rest next) b = omega arith
    go (bad fault index) b = tt
begins-as version tag_lead_to left at =
    go (read_numeral version left (suc at)) ((starts-numeral version).started left (suc at))
  where
    go : (x : Got Numeral) → Given (λ s. s.at ≡ suc at) x → BegunAt transition_at at (and_then x (λ s. pure (lead_to s)))
    go (got s rest next) b = omega arith
    go (bad fault index) b = tt
begins-as version tag_select left at = begun-given transition_at at given-select left (suc at)
  where
    given-select : Gives (λ t. (end : ℕ) → transition_at t end ≡ at)
        (read_expr version deepest >>= λ e. list_of 0 most_pairs (read_pair version) >>= λ ps. pure (select at e ps))
    given-select = gives_then (read_expr version deepest) λ e. gives_then (list_of 0 most_pairs (read_pair version)) λ ps.
        gives-pure (λ t. (end : ℕ) → transition_at t end ≡ at) (select at e ps) (λ end. refl)

pub begins-transition : (version : ℕ) → Begins transition_at (read_transition version)
unfolding BegunAt read_transition here stands_for looked_up meaning ◌>>=◌ and_then
begins-transition version = record { begun = go }
  where
    go : (left : List ℕ) (at : ℕ) → BegunAt transition_at at (read_transition version left at)
    go [] at = tt
    go (n ∷ left) at = inner (get_elem? (transition_tags version) n)
      where
        inner : (x : Option TransitionTag)
            → BegunAt transition_at at (and_then (meaning 4 x left at) (λ tag. read_transition_as version tag at))
        inner none = tt
        inner (some tag) = begins-as version tag left at

-- states
module _ (version : ℕ) (nums : List ℕ) (at : ℕ) (found mid : List ℕ) (a : Scan)
    (w : Lays (read_stmt version deepest) lay_stmt nums at found mid a) where
  pub state-past : (n : ℕ) (filled : List ℕ) (r : Scan) → a ≡ Past n
      → Lays (read_transition version) lay_transition nums n mid filled r
      → Lays (read_state version) lay_state nums at found filled r
  unfolding read_state here ◌>>=◌ and_then lay_state
  state-past n filled r p v =
      lays-as refl
      (lays-next (λ body t. record { at = at; body = body; transition = t }) lay_state transition_at
      (λ body t end slots. refl) (keeps-stmt version deepest) (begins-transition version) w p v)

  pub state-fault : (f i : ℕ) → a ≡ Fault f i → Lays (read_state version) lay_state nums at found mid (Fault f i)
  unfolding read_state here ◌>>=◌ and_then
  state-fault f i p = lays-as refl (lays-fault _ lay_state found w p)

pub ruleset states = (state-past, state-fault)

-- the list of them, where the version has a parser
pub states-read : (version : ℕ) (b : Bool) → b ≡ has_parser version
    → read_states version ≡ elim b [ true ↦ list_of 1 most_states (read_state version) | false ↦ pure [] ]
unfolding read_states
states-read version b e = rw (read_states, ← e)

module _ (version : ℕ) (nums : List ℕ) (at : ℕ) (b : Bool) (e : b ≡ has_parser version) where
  module _ (q : b ≡ true) {state : Called} {found filled ends ends₂ : List ℕ} {r : Scan}
      (w : WalksList state 1 most_states nums at states_slot found filled ends ends₂ r)
      (t : TellsPart state (scan_of (read_state version) nums) (laid_by (read_state version) lay_state nums)) where
    pub states-past : Lays (read_states version) lay_states nums at found filled r
    states-past =
        rw (states-read version true (sym q ∙ e)) (states-lay version nums at found filled r (w.walked _ _ t))

    pub states-ends : Lays (read_states version) (lay_all state_at lay_state) nums at ends ends₂ r
    states-ends =
        rw (states-read version true (sym q ∙ e))
        (state-ends version nums at ends ends₂ found filled r (w.walked _ _ t) (w.laid _ _ t))

  pub states-none : (found : List ℕ) → b ≡ false
      → Lays (read_states version) lay_states nums at found (set found states_slot 0) (Past at)
  unfolding scan_of forget Laid pure lay_states stated listed
  states-none found q = rw (states-read version false (sym q ∙ e)) (record { scan = refl; laid = refl })

  pub states-no-ends : (found : List ℕ) → b ≡ false
      → Lays (read_states version) (lay_all state_at lay_state) nums at found found (Past at)
  unfolding scan_of forget Laid pure lay_all
  states-no-ends found q = rw (states-read version false (sym q ∙ e)) (record { scan = refl; laid = refl })

pub ruleset state_lists = (states-past, states-ends, states-none, states-no-ends)

-- the states and the apply body
module _ (version : ℕ) (nums : List ℕ) (at : ℕ) (found mid : List ℕ) (a : Scan) where
  pub blocks-past : (n : ℕ) (filled : List ℕ) (r : Scan)
      → Lays (read_states version) lay_states nums at found mid a → a ≡ Past n
      → Lays (read_stmt version deepest) lay_body nums n mid filled r
      → Lays (read_blocks version) lay_blocks nums at found filled r
  unfolding read_blocks lay_blocks lay_states
  blocks-past n filled r w p v =
      lays-then (λ ss s. (ss, s)) lay_blocks (λ ss s m next slots. refl) (keeps-states version) w p v

  pub blocks-fault : (f i : ℕ)
      → Lays (read_states version) lay_states nums at found mid a → a ≡ Fault f i
      → Lays (read_blocks version) lay_blocks nums at found mid (Fault f i)
  unfolding read_blocks
  blocks-fault f i w p = lays-fault _ lay_blocks found w p

  pub blocks-ends : (n : ℕ) (filled : List ℕ) (r : Scan)
      → Lays (read_states version) (lay_all state_at lay_state) nums at found mid a → a ≡ Past n
      → Lays (read_stmt version deepest) lay_stmt nums n mid filled r
      → Lays (read_blocks version) ends_blocks nums at found filled r
  unfolding read_blocks ends_blocks
  blocks-ends n filled r w p v =
      lays-next (λ ss s. (ss, s)) ends_blocks (λ s end. stmt_at s) (λ ss s next slots. refl) (keeps-states version)
      (begins-body version deepest) w p v

  pub blocks-no-ends : (f i : ℕ)
      → Lays (read_states version) (lay_all state_at lay_state) nums at found mid a → a ≡ Fault f i
      → Lays (read_blocks version) ends_blocks nums at found mid (Fault f i)
  unfolding read_blocks
  blocks-no-ends f i w p = lays-fault _ ends_blocks found w p

pub ruleset blocks = (blocks-past, blocks-fault, blocks-ends, blocks-no-ends)

-- states are read where there is at least one
gives-least : (least most : ℕ) → Gives (λ n. least ≤ n) (between least most)
unfolding between stands_for looked_up meaning within Given
gives-least least most = record { given = go }
  where
    in-range : (n : ℕ) (b : Bool) → leb least n ≡ b → (d : Bool) → leb n most ≡ d → (left : List ℕ) (at : ℕ)
        → Given (λ n. least ≤ n) (meaning 4 (within least most n) left at)
    in-range n true e true f left at = rw (within, e, f) (leb-true least n e)
    in-range n true e false f left at = rw (within, e, f) tt
    in-range n false e d f left at = rw (within, e) tt

    go : (left : List ℕ) (at : ℕ) → Given (λ n. least ≤ n) (looked_up 4 (within least most) left at)
    go [] at = tt
    go (n ∷ left) at = in-range n (leb least n) refl (leb n most) refl left at

gives-some : {A : Type 0} (most : ℕ) (one : Reader A) → Gives (λ xs. 1 ≤ length xs) (list_of 1 most one)
unfolding list_of
gives-some most one = gives-with (gives-least 1 most) λ n h. gives_as (λ xs e. rw e h) (gives-repeat n one)

begins-states : (version : ℕ) → Begins states_at (read_states version)
unfolding BegunAt Given states_at first_at pure
begins-states version = go (has_parser version) refl
  where
    listed_at : (at : ℕ) (x : Got (List ParserState)) → Given (λ ss. 1 ≤ length ss) x
        → BegunAt (λ ss end. first_at state_at ss end - 1) at x → BegunAt states_at at x
    listed_at at (got [] left next) g b = absurd (omega (arith, g))
    listed_at at (got (s ∷ ss) left next) g b = b
    listed_at at (bad fault index) g b = tt

    begun-list : (left : List ℕ) (at : ℕ) → BegunAt states_at at (list_of 1 most_states (read_state version) left at)
    begun-list left at =
        listed_at at (list_of 1 most_states (read_state version) left at)
        ((gives-some most_states (read_state version)).given left at)
        ((begins-list 1 most_states (starts-states version)).begun left at)

    begun-none : (left : List ℕ) (at : ℕ) → BegunAt states_at at (pure [] left at)
    begun-none left at = refl

    go : (b : Bool) → has_parser version ≡ b → Begins states_at (read_states version)
    go true e = rw (states-read version true (sym e)) (record { begun = begun-list })
    go false e = rw (states-read version false (sym e)) (record { begun = begun-none })

pub begins-blocks : (version : ℕ)
    → Begins (λ (p : List ParserState × Stmt) (end : ℕ). states_at p.0 (stmt_at p.1)) (read_blocks version)
unfolding read_blocks BegunAt Given ◌>>=◌ and_then pure
begins-blocks version = record {
  begun = λ left at. go at (read_states version left at) ((begins-states version).begun left at);
}
  where
    inner : (at n : ℕ) (ss : List ParserState) (y : Got Stmt) → states_at ss n ≡ at → BegunAt (λ s end. stmt_at s) n y
        → BegunAt (λ (p : List ParserState × Stmt) (end : ℕ). states_at p.0 (stmt_at p.1)) at
        (and_then y (λ s. pure (ss, s)))
    inner at n ss (got s left next) e b = rw b e
    inner at n ss (bad fault index) e b = tt

    go : (at : ℕ) (x : Got (List ParserState)) → BegunAt states_at at x
        → BegunAt (λ (p : List ParserState × Stmt) (end : ℕ). states_at p.0 (stmt_at p.1)) at
        (and_then x (λ ss. read_stmt version deepest >>= λ s. pure (ss, s)))
    go at (got ss left n) e =
        inner at n ss (read_stmt version deepest left n) e ((begins-body version deepest).begun left n)
    go at (bad fault index) e = tt
