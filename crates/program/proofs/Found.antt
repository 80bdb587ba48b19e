-- What the looks rest on: a member of a list that the directory has stands where its slot says.
use mathlib.Core.Option.{Option, none, some}
use mathlib.Core.Path.{◌≡◌, refl, sym, ◌∙◌}
use mathlib.Core.List.{List, [], ◌∷◌}
use Prim.Native.Nat.{ℕ, zero, suc, ◌+◌, ◌-◌, ◌*◌, ◌≤◌, ◌<◌}
use native.Mathlib.Omega.{arith}
use native.Mathlib.Numerals.{sub-one}
use lib.ListN.{length, get_or, get_elem?}
use Rattle.rules.specs.Syntax.{Ty, GlobalTy, variable, header, Callable, Key}
use Rattle.program.specs.Codes.{callable_kind_number}
use Rattle.program.specs.Stands.{HoldsTy, HoldsGlobalTy, HoldsReturns, StandsCallable, StandsTable, StandsKeys, parameters_at, locals_at, body_at, keys_end, actions_at, default_at}
use Rattle.program.proofs.Views.{expr-begins}
use Rattle.program.specs.Looks.{Has, Finds, headers_of, states_of, globals_of, callables_of, tables_of, GlobalNumber, FoundGlobal, returns_of, FoundHead, FoundFrame, FoundHeader, FoundState, FoundTable, KeysInside}

-- an index inside a list has its member
pub record At {A : Type 0} (xs : List A) (i : ℕ) : Type 0 where
  pub member : A
  pub is : get_elem? xs i ≡ some member

pub member-at : {A : Type 0} (xs : List A) (i : ℕ) → i < length xs → At xs i
member-at [] i h = absurd (omega arith)
member-at (x ∷ xs) zero h = record { member = x; is = refl }
member-at (x ∷ xs) (suc i) h =
    let r : At xs i = member-at xs i (omega arith) in
    record { member = r.member; is = r.is }

pub member-in : {A : Type 0} (xs : List A) (i : ℕ) (x : A) → get_elem? xs i ≡ some x → i < length xs
member-in [] i x e = let z : ◌≡◌ {A = ℕ} 0 1 = cc in absurd (omega arith)
member-in (y ∷ ys) zero x e = omega arith
member-in (y ∷ ys) (suc i) x e = let h : i < length ys = member-in ys i x e in omega arith

-- globals
module _ (nums directory ends : List ℕ) (g : ℕ) (h : Has globals_of nums directory ends g) where
  pub global-few : g < 32
  unfolding globals_of
  global-few = omega (arith, h.inside, h.stands.globals.few)

  pub global-slot : 10 + g < 217
  global-slot = omega (arith, global-few)

  global-in : (x : GlobalTy) (at : ℕ) → HoldsGlobalTy nums at x → at < length nums
  unfolding HoldsGlobalTy
  global-in (variable t) at k = k.inside
  global-in (header n) at k = k.0.inside

  pub global-inside : get_or directory (10 + g) 0 < length nums
  unfolding globals_of
  global-inside =
      let m : At h.program.globals g = member-at h.program.globals g h.inside in
      global-in m.member.ty (get_or directory (10 + g) 0)
      (h.stands.globals.member g m.member m.is).ty

global-is : (nums : List ℕ) (at : ℕ) (x : GlobalTy) → HoldsGlobalTy nums at x → GlobalNumber (get_or nums at 0) x
unfolding HoldsGlobalTy GlobalNumber
global-is nums at (variable t) k = (k.most, k.is)
global-is nums at (header n) k = (k.0.is, k.1)

pub global-found : (nums directory ends : List ℕ) (g : ℕ)
    → Finds globals_of (FoundGlobal (get_or nums (get_or directory (10 + g) 0) 0)) nums directory ends g
unfolding globals_of FoundGlobal
global-found nums directory ends g = record {
  finds = λ P end x s e. global-is nums (get_or directory (10 + g) 0) x.ty (s.globals.member g x e).ty;
}

-- header types
module _ (nums directory ends : List ℕ) (i : ℕ) (h : Has headers_of nums directory ends i) where
  pub header-slot : 1 + i < 217
  unfolding headers_of
  header-slot = omega (arith, h.inside, h.stands.headers.few)

pub header-found : (nums directory ends : List ℕ) (i : ℕ)
    → Finds headers_of (FoundHeader nums (get_or directory (1 + i) 0)) nums directory ends i
unfolding headers_of FoundHeader
header-found nums directory ends i = record { finds = λ P end x s e. s.headers.member i x e }

-- states
module _ (nums directory ends : List ℕ) (i : ℕ) (h : Has states_of nums directory ends i) where
  pub state-slot : 71 + i < 217
  unfolding states_of
  state-slot = omega (arith, h.inside, h.stands.states.few)

pub state-found : (nums directory ends : List ℕ) (i : ℕ)
    → Finds states_of (FoundState nums ends (get_or directory (71 + i) 0)) nums directory ends i
unfolding states_of FoundState
state-found nums directory ends i = record { finds = λ P end x s e. s.states.member i x e }

-- callables
returns_one : (x : Option Ty) → callable_kind_number x ≤ 1
unfolding callable_kind_number
returns_one none = omega arith
returns_one (some t) = omega arith

-- where a callable begins, the count of its parameters and that of its locals
abbrev begins_at : List ℕ → ℕ → ℕ
begins_at directory f = get_or directory (43 + f) 0

abbrev counted_at : List ℕ → List ℕ → ℕ → ℕ
counted_at nums directory f = begins_at directory f + 1 + get_or nums (begins_at directory f) 0

abbrev behind_at : List ℕ → List ℕ → ℕ → ℕ
behind_at nums directory f =
    counted_at nums directory f + 1 + 2 * get_or nums (counted_at nums directory f) 0

-- the numbers of its head and frame are inside
pub record Room (nums directory : List ℕ) (f : ℕ) : Type 0 where
  pub slot : f < 16
  pub numbers : length nums ≤ 4096
  pub kind : get_or nums (begins_at directory f) 0 ≤ 1
  pub most : get_or nums (counted_at nums directory f) 0 ≤ 8
  pub inside : behind_at nums directory f < length nums
  pub locals_most : get_or nums (behind_at nums directory f) 0 ≤ 8

pub room : (nums directory ends : List ℕ) (f : ℕ) → Has callables_of nums directory ends f → Room nums directory f
unfolding callables_of parameters_at locals_at
room nums directory ends f h =
    let m : At h.program.callables f = member-at h.program.callables f h.inside in
    let s : StandsCallable nums ends (begins_at directory f) m.member
    = h.stands.callables.member f m.member m.is in
    let k : get_or nums (begins_at directory f) 0 ≡ callable_kind_number m.member.returns = s.kind.is in
    let c : get_or nums (counted_at nums directory f) 0 ≡ length m.member.parameters
    = rw k s.parameter_count.holds.is in
    let l : behind_at nums directory f ≡ locals_at (begins_at directory f) m.member = rw (c, k) in
    record {
      slot = omega (arith, h.inside, h.stands.callables.few);
      numbers = h.stands.numbers;
      kind = omega (arith, k, returns_one m.member.returns);
      most = omega (arith, c, s.parameter_count.at_most);
      inside = rw l s.local_count.holds.inside;
      locals_most = rw l (omega (arith, s.local_count.at_most, s.local_count.holds.is));
    }

returns-none : (x : Option Ty) → callable_kind_number x ≡ 0 → x ≡ none
unfolding callable_kind_number
returns-none none e = refl
returns-none (some t) e = absurd (omega arith)

-- an action's head, and a function's
module _ (nums directory ends : List ℕ) (f : ℕ) where
  abbrev begins : ℕ
  begins = begins_at directory f

  pub action-found : get_or nums begins 0 ≡ 0
      → Finds callables_of (FoundHead nums 0 0 (begins + 2) (get_or nums (begins + 1) 0)) nums directory ends f
  unfolding callables_of parameters_at returns_of callable_kind_number
  action-found k = record {
    finds = λ P end c s e.
        let t : StandsCallable nums ends begins c = s.callables.member f c e in
        let n : c.returns ≡ none = returns-none c.returns (sym t.kind.is ∙ k) in
        let p : parameters_at begins c ≡ begins + 1 = omega (arith, t.kind.is, k) in
        let q : parameters_at begins c + 1 ≡ begins + 2 = omega (arith, p) in
        record {
          kind_is = sym k ∙ t.kind.is;
          returns_is = rw n;
          returns_most = omega arith;
          parameters_stand = rw q at t.parameters;
          count_is = rw p at t.parameter_count.holds.is;
        };
  }

  function-head : (c : Callable) → StandsCallable nums ends begins c → (get_or nums begins 0 ≡ 0 → ⊥)
      → (x : Option Ty) → c.returns ≡ x
      → FoundHead nums 1 (get_or nums (begins + 1) 0) (begins + 3) (get_or nums (begins + 2) 0) c
  unfolding parameters_at returns_of callable_kind_number HoldsReturns
  function-head c t k none n =
      let z : get_or nums begins 0 ≡ 0 = t.kind.is ∙ rw n in
      absurd (k z)
  function-head c t k (some u) n =
      let y : get_or nums begins 0 ≡ 1 = t.kind.is ∙ rw n in
      let h : HoldsTy nums (begins + 1) u = rw n at t.returns in
      let p : parameters_at begins c ≡ begins + 2 = omega (arith, t.kind.is, y) in
      let q : parameters_at begins c + 1 ≡ begins + 3 = omega (arith, p) in
      record {
        kind_is = rw n;
        returns_is = rw (n, h.is);
        returns_most = h.most;
        parameters_stand = rw q at t.parameters;
        count_is = rw p at t.parameter_count.holds.is;
      }

  pub function-found : (get_or nums begins 0 ≡ 0 → ⊥)
      → Finds callables_of
      (FoundHead nums 1 (get_or nums (begins + 1) 0) (begins + 3) (get_or nums (begins + 2) 0)) nums
      directory ends f
  unfolding callables_of
  function-found k = record {
    finds = λ P end c s e. function-head c (s.callables.member f c e) k c.returns refl;
  }

  -- the frame behind the parameters
  abbrev behind : ℕ
  behind = behind_at nums directory f

  pub frame_found : Finds callables_of
      (FoundFrame nums ends (behind + 1) (get_or nums behind 0) (behind + 1 + get_or nums behind 0)) nums directory ends f
  unfolding callables_of parameters_at locals_at body_at
  frame_found = record {
    finds = λ P end c s e.
        let t : StandsCallable nums ends begins c = s.callables.member f c e in
        let k : get_or nums begins 0 ≡ callable_kind_number c.returns = t.kind.is in
        let n : get_or nums (begins + 1 + callable_kind_number c.returns) 0 ≡ length c.parameters
        = t.parameter_count.holds.is in
        let l : get_or nums (begins + 1 + callable_kind_number c.returns + 1 + 2 * length c.parameters) 0 ≡ length
        c.locals
        = t.local_count.holds.is in
        record {
          locals_stand = rw (k, n) t.locals;
          count_is = rw (k, n) l;
          body_stands = rw (k, n, l) t.body;
        };
  }

-- keys end where those behind the first do
pub key_end : (ends : List ℕ) (at n : ℕ) → keys_end ends at (suc n) ≡ keys_end ends (get_or ends (at + 1) 0) n
unfolding keys_end
key_end ends at n = refl

-- keys are stepped over one by one: what is left of them is inside, and ends where all of them do
pub record KeysLeft (ends : List ℕ) (at count done next : ℕ) : Type 0 where
  pub inside : KeysInside ends next (count - done)
  pub end : keys_end ends next (count - done) ≡ keys_end ends at count

pub keys-first : (ends : List ℕ) (at count : ℕ) → KeysInside ends at count → KeysLeft ends at count 0 at
keys-first ends at count h =
    let e : count - 0 ≡ count = omega arith in
    record { inside = rw e h; end = rw e refl }

module _ (ends : List ℕ) (at count done next : ℕ) (w : KeysLeft ends at count done next) where
  key_left : (n : ℕ) → KeysInside ends next (suc n)
      → (next + 1 < length ends) × KeysInside ends (get_or ends (next + 1) 0) n
  unfolding KeysInside
  key_left n k = k

  module _ (more : done < count) where
    left-is : count - done ≡ suc (count - (done + 1))
    left-is = omega arith

    pub key-inside : next + 1 < length ends
    key-inside = (key_left (count - (done + 1)) (rw left-is at w.inside)).0

    pub keys-next : KeysLeft ends at count (done + 1) (get_or ends (next + 1) 0)
    keys-next = record {
      inside = (key_left (count - (done + 1)) (rw left-is at w.inside)).1;
      end = sym (key_end ends next (count - (done + 1))) ∙ (rw left-is at w.end);
    }

  pub keys-done : count ≤ done → next ≡ keys_end ends at count
  unfolding keys_end
  keys-done h = let e : count - done ≡ 0 = omega arith in rw e at w.end

pub ruleset stepping = (keys-first, key-inside, keys-next, keys-done)

-- tables
abbrev table_begins : List ℕ → ℕ → ℕ
table_begins directory t = get_or directory (60 + t) 0

abbrev actions_begin : List ℕ → List ℕ → List ℕ → ℕ → ℕ
actions_begin nums directory ends t =
    keys_end ends (table_begins directory t + 1) (get_or nums (table_begins directory t) 0)

stands-inside : (nums ends : List ℕ) (at : ℕ) (ks : List Key) → length nums ≤ length ends → StandsKeys nums ends at ks
    → KeysInside ends at (length ks)
unfolding StandsKeys KeysInside
stands-inside nums ends at [] r k = tt
stands-inside nums ends at (x ∷ ks) r k = (
  omega (arith, expr-begins k.1.1.0, r),
  stands-inside nums ends (get_or ends (at + 1) 0) ks r k.1.1.1,
)

pub record TableRoom (nums directory ends : List ℕ) (t : ℕ) : Type 0 where
  pub slot : t < 8
  pub numbers : length nums ≤ 4096
  pub inside : table_begins directory t < length nums
  pub keys : KeysInside ends (table_begins directory t + 1) (get_or nums (table_begins directory t) 0)
  pub actions : actions_begin nums directory ends t < length nums
  pub most : get_or nums (actions_begin nums directory ends t) 0 ≤ 8

pub table-room : (nums directory ends : List ℕ) (t : ℕ) → Has tables_of nums directory ends t
    → TableRoom nums directory ends t
unfolding tables_of actions_at
table-room nums directory ends t h =
    let m : At h.program.tables t = member-at h.program.tables t h.inside in
    let s : StandsTable nums ends (table_begins directory t) m.member
    = h.stands.tables.member t m.member m.is in
    let k : get_or nums (table_begins directory t) 0 ≡ length m.member.keys = s.key_count.holds.is in
    record {
      slot = omega (arith, h.inside, h.stands.tables.few);
      numbers = h.stands.numbers;
      inside = s.key_count.holds.inside;
      keys = rw k (stands-inside nums ends _ m.member.keys h.stands.room s.keys);
      actions = rw k s.action_count.holds.inside;
      most = rw k (omega (arith, s.action_count.holds.is, s.action_count.at_most));
    }

pub keys-stand : (nums directory ends : List ℕ) (t : ℕ) → Has tables_of nums directory ends t
    → KeysInside ends (table_begins directory t + 1) (get_or nums (table_begins directory t) 0)
keys-stand nums directory ends t h = (table-room nums directory ends t h).keys

pub actions-most : (nums directory ends : List ℕ) (t a : ℕ) → Has tables_of nums directory ends t
    → a ≡ actions_begin nums directory ends t → get_or nums a 0 ≤ 8
actions-most nums directory ends t a h e = rw e (table-room nums directory ends t h).most

pub table-found : (nums directory ends : List ℕ) (t a : ℕ) → a ≡ actions_begin nums directory ends t
    → Finds tables_of (FoundTable nums ends (table_begins directory t) a (a + 1 + get_or nums a 0)) nums directory ends t
unfolding tables_of actions_at default_at
table-found nums directory ends t a e = record {
  finds = λ P end T s f.
      let w : StandsTable nums ends (table_begins directory t) T = s.tables.member t T f in
      let k : a ≡ actions_at ends (table_begins directory t) T = e ∙ rw w.key_count.holds.is in
      record { stands = w; actions_is = k; default_is = rw (k, w.action_count.holds.is) };
}

pub ruleset looks = (
  global-slot,
  global-inside,
  global-found,
  header-slot,
  header-found,
  state-slot,
  state-found,
  action-found,
  function-found,
  frame_found,
  keys-stand,
  table-found,
)
