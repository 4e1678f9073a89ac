-- What each kind of expression comes to, of what its parts come to.
use Rattle.std.proofs.Common.{◌≡◌, ℕ, zero, suc, ◌*◌, ◌^◌, ◌<◌, ◌≤◌, ◌/◌, ◌==◌, Bool, true, false, if◌then◌else◌, List, [], length, Option, Some, None, refl, sym, ap, ◌∙◌, subst, true≢false, arith, eqb-true, div-le_self}
use Rattle.std.proofs.lemmas.Option.{none-some, same_Some}
use Rattle.nv_base.specs.declared.term.Bin.TheVariants as bin
use Rattle.nv_base.specs.declared.term.Una.TheVariants as una
use Rattle.nv_base.specs.declared.term.Mem.{Mem}
use Rattle.nv_base.specs.Memories.{Memories, HasSizes, fetched, stored}
use Rattle.nv_base.specs.Words.{word_not, rotated_left}
use Rattle.nv_base.proofs.WordLemmas.{word-fits as sum-fits, una-fits, bin-fits}
use Rattle.nv_base.proofs.MemoryLemmas.{stored-sizes, fetched-words}
use Rattle.nv_ast.specs.declared.tree.Op.{Op}
use Rattle.nv_ast.specs.declared.tree.Op.TheVariants.{Add, Sub, And, Or, Xor, Eq, Ne, Lt, Le, Gt, Ge, Both, Either}
use Rattle.nv_ast.specs.declared.tree.ShiftOp.{ShiftOp}
use Rattle.nv_ast.specs.declared.tree.ShiftOp.TheVariants.{Left, Right, Rotate}
use Rattle.nv_ast.specs.Types.{Ty, WordTy, BoolTy, Tys, NamedTys, words_ty}
use Rattle.nv_ast.specs.Scope.{Vars}
use Rattle.nv_ast.specs.Typing.{and_ty, and_named_ty, or_ty, operand_ty, result_ty}
use Rattle.nv_ast.specs.Faults.{same_as, other_type, can_move}
use Rattle.nv_meaning.specs.Values.{Value, Word, Truth, Values, NamedValues, words_of, all_words, all_named_words, word_of, truth_of, Scope}
use Rattle.nv_ast.specs.declared.token.Span.{Span}
use Rattle.nv_meaning.specs.Running.{Running, Result, Gives, Raises, Halts, Results, GiveAll, Breaks, NamedResults, GiveNamed, BreaksNamed, Stated, GoesOn, StopsAt, and_then, and_all, and_named, and_stated, and_further, then_more, then_named, then_stated, before_rest, before_named, handled, after_fetch, fetch, after_store, store}
use Rattle.nv_meaning.specs.Meaning.{combined, binary, shifted}
use Rattle.nv_flatten_values.specs.inner.Whole.{Whole, raised_tys}
use Rattle.nv_flatten_values.specs.inner.Soundness.{value_ty, value_tys, named_value_tys, scope_tys, AreWords, ScopeWords, ComesTo}
use Rattle.nv_flatten_values.proofs.NoFaults.{same-is, is-right}
use Rattle.nv_flatten_values.proofs.SoundWords.{one-word, words-after, truth-words, word-fits, words-value-type, words-value-fits}

-- ---- expressions one after another have these types, or what breaks them off has no value
abbrev pub AllComeTo : Whole → Option Tys → Results → Type 0
AllComeTo w ts (GiveAll vs now) = (ts ≡ Some (value_tys vs)) × AreWords (all_words vs) × HasSizes now.packet
AllComeTo w ts (Breaks how) = ComesTo w None how

abbrev pub NamedComeTo : Whole → Option NamedTys → NamedResults → Type 0
NamedComeTo w ts (GiveNamed vs now) = (ts ≡ Some (named_value_tys vs)) × AreWords (all_named_words vs) × HasSizes now.packet
NamedComeTo w ts (BreaksNamed how) = ComesTo w None how

-- statements come to a scope whose variables have these types
abbrev pub StatedComesTo : Whole → Vars → Stated → Type 0
StatedComesTo w vars (GoesOn scope now) = (vars ≡ scope_tys scope) × ScopeWords scope × HasSizes now.packet
StatedComesTo w vars (StopsAt how) = ComesTo w None how

module _ (w : Whole) where
  -- what has no value has any type
  pub any-type : (t : Option Ty) (r : Result) → ComesTo w None r → ComesTo w t r
  any-type t (Gives v now) h = let never : None ≡ Some (value_ty v) = h.0 in absurd (none-some (value_ty v) never)
  any-type t (Raises k vs now) h = h
  any-type t (Halts how now) h = tt

  -- another way to write the type
  pub as-type : (t u : Option Ty) (r : Result) → t ≡ u → ComesTo w t r → ComesTo w u r
  as-type t u r e h = subst (λ x. ComesTo w x r) e h

  pub gives-word : (x : ℕ) (now : Running) → x < 2 ^ 32 → HasSizes now.packet → ComesTo w (Some WordTy) (Gives (Word x) now)
  gives-word x now h s = (refl, one-word x h, s)

  pub gives-truth : (b : Bool) (now : Running) → HasSizes now.packet → ComesTo w (Some BoolTy) (Gives (Truth b) now)
  gives-truth b now s = (refl, truth-words b, s)

  -- ---- what follows a value
  pub then-typed : (t u : Option Ty) (r : Result) (next : Value → Running → Result) → ComesTo w t r
      → ((v : Value) (now : Running) → t ≡ Some (value_ty v) → AreWords (words_of v) → HasSizes now.packet → ComesTo w u (next v now)) → ComesTo w u (and_then r next)
  then-typed t u (Gives v now) next h k = k v now h.0 h.1 h.2
  then-typed t u (Raises j vs now) next h k = h
  then-typed t u (Halts how now) next h k = tt

  pub all-typed : (ts : Option Tys) (u : Option Ty) (r : Results) (next : Values → Running → Result) → AllComeTo w ts r
      → ((vs : Values) (now : Running) → ts ≡ Some (value_tys vs) → AreWords (all_words vs) → HasSizes now.packet → ComesTo w u (next vs now)) → ComesTo w u (and_all r next)
  all-typed ts u (GiveAll vs now) next h k = k vs now h.0 h.1 h.2
  all-typed ts u (Breaks how) next h k = any-type u how h

  pub named-typed : (ts : Option NamedTys) (u : Option Ty) (r : NamedResults) (next : NamedValues → Running → Result) → NamedComeTo w ts r
      → ((vs : NamedValues) (now : Running) → ts ≡ Some (named_value_tys vs) → AreWords (all_named_words vs) → HasSizes now.packet → ComesTo w u (next vs now)) → ComesTo w u (and_named r next)
  named-typed ts u (GiveNamed vs now) next h k = k vs now h.0 h.1 h.2
  named-typed ts u (BreaksNamed how) next h k = any-type u how h

  pub stated-typed : (vars : Vars) (u : Option Ty) (r : Stated) (next : Scope → Running → Result) → StatedComesTo w vars r
      → ((scope : Scope) (now : Running) → vars ≡ scope_tys scope → ScopeWords scope → HasSizes now.packet → ComesTo w u (next scope now)) → ComesTo w u (and_stated r next)
  stated-typed vars u (GoesOn scope now) next h k = k scope now h.0 h.1 h.2
  stated-typed vars u (StopsAt how) next h k = any-type u how h

  pub further-typed : (vars inner : Vars) (r : Stated) (next : Scope → Running → Stated) → StatedComesTo w vars r
      → ((scope : Scope) (now : Running) → vars ≡ scope_tys scope → ScopeWords scope → HasSizes now.packet → StatedComesTo w inner (next scope now)) → StatedComesTo w inner (and_further r next)
  further-typed vars inner (GoesOn scope now) next h k = k scope now h.0 h.1 h.2
  further-typed vars inner (StopsAt how) next h k = h

  pub more-typed : (t : Option Ty) (ts : Option Tys) (r : Result) (next : Value → Running → Results) → ComesTo w t r
      → ((v : Value) (now : Running) → t ≡ Some (value_ty v) → AreWords (words_of v) → HasSizes now.packet → AllComeTo w ts (next v now)) → AllComeTo w ts (then_more r next)
  more-typed t ts (Gives v now) next h k = k v now h.0 h.1 h.2
  more-typed t ts (Raises j vs now) next h k = h
  more-typed t ts (Halts how now) next h k = tt

  pub more-named-typed : (t : Option Ty) (ts : Option NamedTys) (r : Result) (next : Value → Running → NamedResults) → ComesTo w t r
      → ((v : Value) (now : Running) → t ≡ Some (value_ty v) → AreWords (words_of v) → HasSizes now.packet → NamedComeTo w ts (next v now)) → NamedComeTo w ts (then_named r next)
  more-named-typed t ts (Gives v now) next h k = k v now h.0 h.1 h.2
  more-named-typed t ts (Raises j vs now) next h k = h
  more-named-typed t ts (Halts how now) next h k = tt

  pub then-stated-typed : (t : Option Ty) (vars : Vars) (r : Result) (next : Value → Running → Stated) → ComesTo w t r
      → ((v : Value) (now : Running) → t ≡ Some (value_ty v) → AreWords (words_of v) → HasSizes now.packet → StatedComesTo w vars (next v now)) → StatedComesTo w vars (then_stated r next)
  then-stated-typed t vars (Gives v now) next h k = k v now h.0 h.1 h.2
  then-stated-typed t vars (Raises j vs now) next h k = h
  then-stated-typed t vars (Halts how now) next h k = tt

  -- a value in front
  pub before-typed : (t : Option Ty) (ts : Option Tys) (v : Value) (r : Results) → t ≡ Some (value_ty v) → AreWords (words_of v) → AllComeTo w ts r → AllComeTo w (and_ty t ts) (before_rest v r)
  before-typed t ts v (GiveAll vs now) e f h = (ap (λ o. and_ty o ts) e ∙ ap (λ o. and_ty (Some (value_ty v)) o) h.0, words-after (words_of v) (all_words vs) f h.1, h.2)
  before-typed t ts v (Breaks how) e f h = h

  pub before-named-typed : (x : List ℕ) (t : Option Ty) (ts : Option NamedTys) (v : Value) (r : NamedResults) → t ≡ Some (value_ty v) → AreWords (words_of v) → NamedComeTo w ts r
      → NamedComeTo w (and_named_ty x t ts) (before_named x v r)
  before-named-typed x t ts v (GiveNamed vs now) e f h = (ap (λ o. and_named_ty x o ts) e ∙ ap (λ o. and_named_ty x (Some (value_ty v)) o) h.0, words-after (words_of v) (all_named_words vs) f h.1, h.2)
  before-named-typed x t ts v (BreaksNamed how) e f h = h

  -- ---- choices: the first part, or the second, which has the type of the first if that has one
  pub first-typed : (t u : Option Ty) (r : Result) → ComesTo w t r → ComesTo w (or_ty t u) r
  first-typed t u (Gives v now) h = (ap (λ o. or_ty o u) h.0, h.1, h.2)
  first-typed t u (Raises k vs now) h = h
  first-typed t u (Halts how now) h = tt

  pub second-typed : (t u : Option Ty) (r : Result) → other_type (same_as t) u ≡ [] → ComesTo w u r → ComesTo w (or_ty t u) r
  second-typed None u r o h = h
  second-typed (Some t) u (Gives v now) o h = (ap (λ x. Some x) (sym (same-is (value_ty v) t (is-right (same_as (Some t)) u (value_ty v) o h.0))), h.1, h.2)
  second-typed (Some t) u (Raises k vs now) o h = h
  second-typed (Some t) u (Halts how now) o h = tt

  pub choice-typed : (t : Option Ty) (b : Bool) (a c : Result) → ComesTo w t a → ComesTo w t c → ComesTo w t (if b then a else c)
  choice-typed t true a c f g = f
  choice-typed t false a c f g = g

  -- ---- operators
  combined-typed : (op : Op) (x y : ℕ) (now : Running) → x < 2 ^ 32 → y < 2 ^ 32 → HasSizes now.packet → ComesTo w (Some (result_ty op)) (Gives (combined op x y) now)
  combined-typed Add x y now f g s = gives-word _ now (bin-fits bin.Add x y f g) s
  combined-typed Sub x y now f g s = gives-word _ now (bin-fits bin.Sub x y f g) s
  combined-typed And x y now f g s = gives-word _ now (bin-fits bin.And x y f g) s
  combined-typed Or x y now f g s = gives-word _ now (bin-fits bin.Or x y f g) s
  combined-typed Xor x y now f g s = gives-word _ now (bin-fits bin.Xor x y f g) s
  combined-typed Eq x y now f g s = gives-truth _ now s
  combined-typed Ne x y now f g s = gives-truth _ now s
  combined-typed Lt x y now f g s = gives-truth _ now s
  combined-typed Le x y now f g s = gives-truth _ now s
  combined-typed Gt x y now f g s = gives-truth _ now s
  combined-typed Ge x y now f g s = gives-truth _ now s
  combined-typed Both x y now f g s = gives-truth false now s
  combined-typed Either x y now f g s = gives-truth false now s

  strict-typed : (op : Op) (r : Result) (right : Running → Result) → ComesTo w (Some WordTy) r → ((now : Running) → HasSizes now.packet → ComesTo w (Some WordTy) (right now))
      → ComesTo w (Some (result_ty op)) (and_then r (λ v now. and_then (right now) (λ u last. Gives (combined op (word_of v) (word_of u)) last)))
  strict-typed op r right h k =
      then-typed (Some WordTy) (Some (result_ty op)) r (λ v now. and_then (right now) (λ u last. Gives (combined op (word_of v) (word_of u)) last)) h
      (λ v now tv fv sv. then-typed (Some WordTy) (Some (result_ty op)) (right now) (λ u last. Gives (combined op (word_of v) (word_of u)) last) (k now sv)
      (λ u last tu fu su. combined-typed op (word_of v) (word_of u) last (word-fits v tv fv) (word-fits u tu fu) su))

  pub binary-typed : (op : Op) (r : Result) (right : Running → Result) → ComesTo w (Some (operand_ty op)) r → ((now : Running) → HasSizes now.packet → ComesTo w (Some (operand_ty op)) (right now))
      → ComesTo w (Some (result_ty op)) (binary op r right)
  binary-typed Add r right h k = strict-typed Add r right h k
  binary-typed Sub r right h k = strict-typed Sub r right h k
  binary-typed And r right h k = strict-typed And r right h k
  binary-typed Or r right h k = strict-typed Or r right h k
  binary-typed Xor r right h k = strict-typed Xor r right h k
  binary-typed Eq r right h k = strict-typed Eq r right h k
  binary-typed Ne r right h k = strict-typed Ne r right h k
  binary-typed Lt r right h k = strict-typed Lt r right h k
  binary-typed Le r right h k = strict-typed Le r right h k
  binary-typed Gt r right h k = strict-typed Gt r right h k
  binary-typed Ge r right h k = strict-typed Ge r right h k
  binary-typed Both r right h k =
      then-typed (Some BoolTy) (Some BoolTy) r (λ v now. if truth_of v then right now else Gives (Truth false) now) h
      (λ v now tv fv sv. choice-typed (Some BoolTy) (truth_of v) (right now) (Gives (Truth false) now) (k now sv) (gives-truth false now sv))
  binary-typed Either r right h k =
      then-typed (Some BoolTy) (Some BoolTy) r (λ v now. if truth_of v then Gives (Truth true) now else right now) h
      (λ v now tv fv sv. choice-typed (Some BoolTy) (truth_of v) (Gives (Truth true) now) (right now) (gives-truth true now sv) (k now sv))

  -- ---- exceptions
  pub handled-typed : (k : ℕ) (t u : Option Ty) (ts : Tys) (handler : Values → Running → Result) (r : Result) → raised_tys w k ≡ Some ts → other_type (same_as t) u ≡ [] → ComesTo w t r
      → ((vs : Values) (now : Running) → ts ≡ value_tys vs → AreWords (all_words vs) → HasSizes now.packet → ComesTo w u (handler vs now)) → ComesTo w (or_ty t u) (handled k handler r)
  handled-typed k t u ts handler (Gives v now) e o h next = first-typed t u (Gives v now) h
  handled-typed k t u ts handler (Halts how now) e o h next = tt
  handled-typed k t u ts handler (Raises j vs now) e o h next = by (j == k) refl
    where
      by : (b : Bool) → (j == k) ≡ b → ComesTo w (or_ty t u) (if b then handler vs now else Raises j vs now)
      by true is =
          let number : j ≡ k = eqb-true j k is in
          second-typed t u (handler vs now) o (next vs now (same_Some ts (value_tys vs) (sym e ∙ ap (raised_tys w) (sym number) ∙ h.0)) h.1 h.2)
      by false is = h

  -- ---- accesses
  pub fetch-typed : (m : Mem) (n at : ℕ) (now : Running) → can_move m n ≡ true → HasSizes now.packet → ComesTo w (Some (words_ty n)) (fetch m n at now)
  fetch-typed m n at now can s = by (can_move m n) can
    where
      after : (o : Option (List ℕ)) → fetched m at n now.packet ≡ o → ComesTo w (Some (words_ty n)) (after_fetch m at o now)
      after None e = tt
      after (Some ws) e =
          let fits = fetched-words m at n now.packet ws s e in
          (ap (λ t. Some t) (ap words_ty (sym fits.0) ∙ sym (words-value-type ws)), words-value-fits ws fits.1, s)

      by : (b : Bool) → b ≡ true → ComesTo w (Some (words_ty n)) (if b then after_fetch m at (fetched m at n now.packet) now else Gives (Word 0) now)
      by true e = after (fetched m at n now.packet) refl
      by false e = absurd (true≢false (sym e))

  pub store-typed : (text : Span) (vars : Vars) (scope : Scope) (m : Mem) (at : ℕ) (ws : List ℕ) (now : Running) → vars ≡ scope_tys scope → ScopeWords scope → AreWords ws → HasSizes now.packet
      → StatedComesTo w vars (store text scope m at ws now)
  store-typed text vars scope m at ws now e f g s = by (can_move m (length ws))
    where
      after : (o : Option Memories) → stored m at ws now.packet ≡ o → StatedComesTo w vars (after_store text scope m at ws o now)
      after None is = tt
      after (Some q) is = (e, f, stored-sizes m at ws now.packet q s g is)

      by : (b : Bool) → StatedComesTo w vars (if b then after_store text scope m at ws (stored m at ws now.packet) now else GoesOn scope now)
      by true = after (stored m at ws now.packet) refl
      by false = (e, f, s)

-- ---- shifts by at most 31
rotated-none : (x : ℕ) → x < 2 ^ 32 → rotated_left 0 x < 2 ^ 32
rotated-none x h = omega arith

pub shifted-fits : (op : ShiftOp) (n x : ℕ) → n ≤ 31 → x < 2 ^ 32 → shifted op n x < 2 ^ 32
shifted-fits Left n x le h = sum-fits (x * 2 ^ n)
shifted-fits Right n x le h = let less : x / 2 ^ n ≤ x = div-le_self x (2 ^ n) in omega arith
shifted-fits Rotate zero x le h = rotated-none x h
shifted-fits Rotate (suc n) x le h = una-fits (una.Rol (suc n)) x (omega arith, le) h

pub not-fits : (x : ℕ) → x < 2 ^ 32 → word_not x < 2 ^ 32
not-fits x h = una-fits una.Not x tt h
