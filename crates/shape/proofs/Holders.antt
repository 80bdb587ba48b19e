-- Parts that hold expressions or statements: keys, tables, callables. What they scan to, and the ends that they lay.
use mathlib.Core.Option.{Option}
use mathlib.Core.Path.{◌≡◌, refl, sym, ◌∙◌}
use mathlib.Core.List.{List}
use Prim.Native.Nat.{ℕ, ◌-◌}
use lib.ListN.{drop, get_elem?}
use Rattle.rules.specs.Syntax.{Ty, Parameter, Stmt, Key, Numeral, Table, Callable}
use Rattle.rules.specs.Reading.{most_parameters, most_locals, most_keys, most_actions, most_arguments}
use Rattle.rules.specs.Reading.{Got, got, bad, Reader, and_then, ◌>>=◌, pure, here, stands_for, repeat, list_of, deepest}
use Rattle.rules.specs.Reading.{key_kinds, callable_kinds, type_of}
use Rattle.rules.specs.Reading.{read_expr, read_stmt, read_parameter, read_returns, read_callable, read_numeral, read_key, read_table}
use Rattle.rules.proofs.Readers.{Keeps, keeps_then, keeps-stands, keeps-list, keeps-numeral, keeps-key, keeps-pure, Given, gives_then, gives-pure, Starts, starts-here}
use Rattle.std.specs.Prelude.{Result}
use Rattle.rules.specs.declared.Fault as rules
use Rattle.shape.specs.Scans.{scan_of, Scan, Past, Fault}
use Rattle.shape.specs.Leads.{value_of, Value, Of, Unread}
use Rattle.shape.specs.Parts.{Tells, Lists, read_returning, read_frame, lay_keys, read_choices, lay_choices, read_default}
use Rattle.shape.specs.Ends.{first_at, key_at, lay_expr, lay_stmt, lay_key, lay_callable, numeral_at, lay_table}
use Rattle.shape.specs.Walks.{Lays, no_ends}
use Rattle.shape.proofs.Lays.{lays-then, lays-fault, lays-as, lays-none, lays-scan, BegunAt, Begins, begins-list, lays-next, pendings, lays-counted, lays-uncounted, pair_then, then_same, then-assoc}
use Rattle.shape.proofs.Laws.{seq-fault}
use Rattle.shape.proofs.Parts.{scans-key, scans-numerals, behind-head, keeps-returning, keeps-frame}

-- what lays ends: keys
pub starts-key : (version : ℕ) → Starts key_at (read_key version)
unfolding read_key key_at
starts-key version = starts-here λ at. gives_then _ λ kind. gives_then _ λ e. gives-pure _ _ refl

pub starts-numeral : (version : ℕ) → Starts numeral_at (read_numeral version)
unfolding read_numeral numeral_at
starts-numeral version = starts-here λ at. gives_then _ λ n. gives-pure _ _ refl

module _ (version : ℕ) (nums : List ℕ) (at : ℕ) (found : List ℕ) where
  pub key-past : (n : ℕ) (filled : List ℕ) (a r : Scan) → a ≡ scan_of (stands_for (get_elem? (key_kinds version))) nums at
      → a ≡ Past n
      → Lays (read_expr version deepest) lay_expr nums n found filled r
      → Lays (read_key version) lay_key nums at found filled r
  unfolding read_key here ◌>>=◌ and_then lay_key no_ends
  key-past n filled a r q p w =
      lays-as refl
      (lays-then (λ kind e. record { at = at; kind = kind; expr = e }) lay_key (λ kind e m next slots. refl)
      (keeps-stands _) (lays-scan found q) p w)

  pub key-fault : (f i : ℕ) (a : Scan) → a ≡ scan_of (stands_for (get_elem? (key_kinds version))) nums at → a ≡ Fault f i
      → Lays (read_key version) lay_key nums at found found (Fault f i)
  key-fault f i a q p =
      lays-none (read_key version) lay_key nums at f i found found
      (seq-fault _ _ _ ((scans-key version nums).scan at) a q f i p)

  pub key-list : (n next : ℕ) (filled : List ℕ) (v : Value) (r : Scan) → v ≡ value_of 1 most_keys nums at → v ≡ Of n next
      → Lays (repeat n (read_key version)) lay_keys nums next found filled r
      → Lays (list_of 1 most_keys (read_key version)) lay_keys nums at found filled r
  key-list n next filled v r q p w = lays-counted
      (read_key version) lay_keys 1 most_keys nums at n next found filled v r q p w

  pub key-list-fault : (f i : ℕ) (v : Value) → v ≡ value_of 1 most_keys nums at → v ≡ Unread f i
      → Lays (list_of 1 most_keys (read_key version)) lay_keys nums at found found (Fault f i)
  key-list-fault f i v q p = lays-uncounted (read_key version) lay_keys 1 most_keys nums at f i found found v q p

  -- tables
  pub choices-past : (n : ℕ) (filled : List ℕ) (a r : Scan) (numeral : ℕ → Result ℕ rules.Fault → Type 0)
      → Lays (list_of 1 most_keys (read_key version)) lay_keys nums at found filled a → a ≡ Past n
      → Lists numeral 1 most_actions nums n r → Tells numeral (scan_of (read_numeral version) nums)
      → Lays (read_choices version) lay_choices nums at found filled r
  unfolding read_choices lay_choices no_ends
  choices-past n filled a r numeral w p v t =
      lays-next (λ ks ns. (ks, ns)) lay_choices (λ ns end. first_at numeral_at ns end - 1) (λ ks ns end slots. refl)
      (keeps-list 1 most_keys (keeps-key version)) (begins-list 1 most_actions (starts-numeral version)) w p
      (lays-scan filled (v.scan _ t ∙ sym ((scans-numerals version nums 1 most_actions).scan n)))

  pub choices-fault : (f i : ℕ) (filled : List ℕ) (a : Scan)
      → Lays (list_of 1 most_keys (read_key version)) lay_keys nums at found filled a
      → a ≡ Fault f i → Lays (read_choices version) lay_choices nums at found filled (Fault f i)
  unfolding read_choices
  choices-fault f i filled a w p = lays-fault _ lay_choices found w p

  pub keeps-choices : Keeps (read_choices version)
  unfolding read_choices
  keeps-choices = keeps_then (keeps-list 1 most_keys (keeps-key version)) λ ks. keeps_then
      (keeps-list 1 most_actions (keeps-numeral version)) λ ns. keeps-pure _

  pub begins-default : Begins (λ q end. q.0.at) (read_default version)
  unfolding read_default BegunAt Given numeral_at ◌>>=◌ and_then here pure
  begins-default = record {
    begun = λ left i.
        go i (read_numeral version left i) ((starts-numeral version).started left i);
  }
    where
      inner : (i c : ℕ) (d : Numeral) (y : Got (List Numeral)) → d.at ≡ i
          → BegunAt (λ q end. q.0.at) i (and_then y (λ xs. pure {A = Numeral × (ℕ × List Numeral)} (d, (c, xs))))
      inner i c d (got xs left next) e = e
      inner i c d (bad fault index) e = tt

      go : (i : ℕ) (x : Got Numeral) → Given (λ d. d.at ≡ i) x
          → BegunAt (λ q end. q.0.at) i
          (and_then x (λ d. here >>= λ c. list_of 0 most_arguments (read_numeral version) >>= λ xs. pure
          {A = Numeral × (ℕ × List Numeral)} (d, (c, xs))))
      go i (got d left next) e = inner i next d (list_of 0 most_arguments (read_numeral version) left next) e
      go i (bad fault index) e = tt

  unfoldable pub make_table : List Key × List Numeral → Numeral × (ℕ × List Numeral) → Table
  make_table p q = record {
    at = at;
    keys = p.0;
    actions = p.1;
    default = q.0;
    count_at = q.1.0;
    arguments = q.1.1;
  }

  default-then : (ks : List Key) (ns : List Numeral) (left : List ℕ) (i : ℕ)
      → (read_numeral version >>= λ d. here >>= λ c. list_of 0 most_arguments (read_numeral version) >>= λ xs.
      pure (make_table (ks, ns) (d, (c, xs)))) left i
      ≡ (read_default version >>= λ q. pure (make_table (ks, ns) q)) left i
  unfolding read_default ◌>>=◌ and_then here pure
  default-then ks ns left i = go (read_numeral version left i)
    where
      inner : (d : Numeral) (c : ℕ) (y : Got (List Numeral))
          → and_then y (λ xs. pure (make_table (ks, ns) (d, (c, xs))))
          ≡ and_then (and_then y (λ xs. pure {A = Numeral × (ℕ × List Numeral)} (d, (c, xs))))
          (λ q. pure (make_table (ks, ns) q))
      inner d c (got xs left next) = refl
      inner d c (bad fault index) = refl

      go : (x : Got Numeral)
          → and_then x (λ d. here >>= λ c. list_of 0 most_arguments (read_numeral version) >>= λ xs.
          pure (make_table (ks, ns) (d, (c, xs))))
          ≡ and_then (and_then x (λ d. here >>= λ c. list_of 0 most_arguments (read_numeral version) >>= λ xs. pure
          {A = Numeral × (ℕ × List Numeral)} (d, (c, xs)))) (λ q. pure (make_table (ks, ns) q))
      go (got d left next) = inner d next (list_of 0 most_arguments (read_numeral version) left next)
      go (bad fault index) = refl

  pub in_two : read_table version (drop at nums) at
      ≡ (read_choices version >>= λ p. read_default version >>= λ q. pure (make_table p q)) (drop at nums) at
  unfolding read_table read_choices here ◌>>=◌ and_then make_table
  in_two =
      pair_then (list_of 1 most_keys (read_key version)) (list_of 1 most_actions (read_numeral version))
      (λ ks ns. read_numeral version >>= λ d. here >>= λ c. list_of 0 most_arguments (read_numeral version) >>= λ xs.
      pure (make_table (ks, ns) (d, (c, xs)))) (drop at nums) at
      ∙ then_same (read_choices version) (drop at nums) at _ _ (λ p left i. default-then p.0 p.1 left i)

  pub table-past : (n : ℕ) (filled : List ℕ) (a r : Scan)
      → Lays (read_choices version) lay_choices nums at found filled a → a ≡ Past n
      → r ≡ scan_of (read_default version) nums n
      → Lays (read_table version) lay_table nums at found filled r
  unfolding lay_choices lay_table make_table no_ends
  table-past n filled a r w p q =
      lays-as in_two
      (lays-next make_table lay_table (λ q end. q.0.at) (λ p q end slots. refl) keeps-choices begins-default w p
      (lays-scan filled q))

  pub table-fault : (f i : ℕ) (filled : List ℕ) (a : Scan)
      → Lays (read_choices version) lay_choices nums at found filled a → a ≡ Fault f i
      → Lays (read_table version) lay_table nums at found filled (Fault f i)
  table-fault f i filled a w p = lays-as in_two (lays-fault _ lay_table found w p)

  -- callables
  abbrev pub Frame : Type 0
  Frame = List Parameter × List Ty

  unfoldable pub make_callable : Option Ty → Frame × Stmt → Callable
  make_callable returns q =
      record { at = at; returns = returns; parameters = q.0.0; locals = q.0.1; body = q.1 }

  unfoldable pub read_framed : Reader (Frame × Stmt)
  read_framed = read_frame version >>= λ f. read_stmt version deepest >>= λ body. pure (f, body)

  lay_framed : Frame × Stmt → ℕ → List ℕ → List ℕ
  lay_framed q end slots = lay_stmt q.1 end slots

  framed : (returns : Option Ty) (left : List ℕ) (i : ℕ)
      → behind-head version nums at returns left i ≡ (read_framed >>= λ q. pure (make_callable returns q)) left i
  unfolding behind-head read_frame read_framed make_callable
  framed returns left i =
      pair_then (list_of 0 most_parameters (read_parameter version)) (list_of 0 most_locals (stands_for (type_of version)))
      (λ ps ls. read_stmt version deepest >>= λ body. pure (make_callable returns ((ps, ls), body))) left i
      ∙ pair_then (read_frame version) (read_stmt version deepest)
      (λ f body. pure (make_callable returns (f, body))) left i

  pub in-three : read_callable version (drop at nums) at
      ≡ (read_returning version >>= λ returns. read_framed >>= λ q. pure (make_callable returns q)) (drop at nums) at
  unfolding read_callable read_returning behind-head here ◌>>=◌ and_then
  in-three =
      then-assoc (stands_for (get_elem? (callable_kinds version))) (read_returns version) (behind-head version nums at)
      (drop at nums) at
      ∙ then_same (read_returning version) (drop at nums) at _ _ framed

  pub callable-past : (n body : ℕ) (filled : List ℕ) (a b r : Scan) → a ≡ scan_of (read_returning version) nums at
      → a ≡ Past n
      → b ≡ scan_of (read_frame version) nums n → b ≡ Past body
      → Lays (read_stmt version deepest) lay_stmt nums body found filled r
      → Lays (read_callable version) lay_callable nums at found filled r
  unfolding read_framed lay_framed lay_callable make_callable no_ends
  callable-past n body filled a b r q p e m w =
      lays-as in-three
      (lays-then make_callable lay_callable (λ returns q m next slots. refl) (keeps-returning version nums)
      (lays-scan found q) p
      (lays-then {second = read_stmt version deepest} (λ f s. (f, s)) lay_framed (λ f s m next slots. refl)
      (keeps-frame version nums) (lays-scan found e) m w))

  pub callable-frame : (n f i : ℕ) (a b : Scan) → a ≡ scan_of (read_returning version) nums at → a ≡ Past n
      → b ≡ scan_of (read_frame version) nums n → b ≡ Fault f i
      → Lays (read_callable version) lay_callable nums at found found (Fault f i)
  unfolding read_framed lay_framed lay_callable make_callable no_ends
  callable-frame n f i a b q p e m =
      lays-as in-three
      (lays-then make_callable lay_callable (λ returns q m next slots. refl) (keeps-returning version nums)
      (lays-scan found q) p (lays-fault _ lay_framed found (lays-scan found e) m))

  pub callable-fault : (f i : ℕ) (a : Scan) → a ≡ scan_of (read_returning version) nums at → a ≡ Fault f i
      → Lays (read_callable version) lay_callable nums at found found (Fault f i)
  callable-fault f i a q p = lays-as in-three (lays-fault _ lay_callable found (lays-scan found q) p)

pub ruleset keys = (keeps-key, starts-key, pendings)

pub ruleset holders = (
  key-past,
  key-fault,
  key-list,
  key-list-fault,
  choices-past,
  choices-fault,
  table-past,
  table-fault,
  callable-past,
  callable-frame,
  callable-fault,
)
