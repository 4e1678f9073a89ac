-- The words of variables along a path: copies have the word of their value, and copies of literals the word of their number.
use Rattle.std.proofs.Common.{◌≡◌, ℕ, zero, suc, ◌*◌, ◌/◌, ◌%◌, ◌^◌, ◌<◌, ◌⊎◌, nat_eq, eqb, ltb, Bool, true, false, not, ◌&&◌, ◌||◌, List, [], ◌∷◌, ◌++◌, map, Some, None, Option, All, if◌then◌else◌, refl, sym, ap, ◌∙◌, subst, ⊎_elim, arith, slice_get}
use Rattle.std.proofs.lemmas.Bool.{and_parts, and_from, or_parts, false≢true, false_from_ne_true, eqb-true, eq-eqb, lt-ltb, not-true}
use Rattle.std.proofs.lemmas.Option.{none-some, same_Some}
use Rattle.std.proofs.lemmas.List.{append-nil}
use Rattle.std.proofs.lemmas.List.Elements.{All-nil, All-cons}
use Rattle.nv_base.specs.declared.term.Mem.{Mem}
use Rattle.nv_base.specs.declared.term.Mem.TheVariants.{Sram, Sdram, Scratch}
use Rattle.nv_base.specs.declared.term.Atom.TheVariants.{Lit as Literal}
use Rattle.nv_base.specs.Memories.{IsSourceStretch}
use Rattle.nv_base.specs.Sets.{is_in, all_different, Within, AgreeOn}
use Rattle.nv_base.specs.Words.{Env, IsEnv, IsWord, word, shifted_left, assigned, assigned_all}
use Rattle.nv_base.proofs.Sets.{agree-all, within-left}
use Rattle.nv_base.proofs.Frames.{source-stretch}
use Rattle.nv_base.proofs.Environments.{either-fits}
use Rattle.ssu_ir.specs.Tree.{Clone}
use Rattle.ssu_ir.specs.Points.{Names, names_after}
use Rattle.ssu_ir.specs.Meaning.{assigned_each}
use Rattle.ssu_ir.specs.Single.{Numbers, numbered, is_address, fits_scratch, is_narrow}
use Rattle.ssu_ir.proofs.Narrow.{narrow_is}
use Rattle.ucode_emit.specs.Pieces.{shift_of}
use Rattle.ucode_emit.proofs.PointsTree.{different_right}
use Rattle.ssu_liveness.proofs.Scoped.{in-either}

-- ---- assignments

either_at : (b : Bool) (w v : ℕ) → b ≡ false → (if b then w else v) ≡ v
either_at true w v e = absurd (false≢true (sym e))
either_at false w v e = refl

-- a variable that isn't among those keeps its word
pub outside : (env : Env) (xs ws : List ℕ) (y : ℕ) → is_in y xs ≡ false → assigned_all env xs ws y ≡ env y
outside env [] ws y e = refl
outside env (x ∷ xs) [] y e = let p = or_parts (nat_eq y x) (is_in y xs) e in outside (assigned env x 0) xs [] y p.1 ∙ either_at (nat_eq y x) 0 (env y) p.0
outside env (x ∷ xs) (w ∷ ws) y e = let p = or_parts (nat_eq y x) (is_in y xs) e in outside (assigned env x w) xs ws y p.1 ∙ either_at (nat_eq y x) w (env y) p.0

none_agree : (env v : Env) → AgreeOn [] env v
none_agree env v x h = absurd (false≢true h)

-- one that is has the same word whatever it had before
pub inside : (env v : Env) (xs ws : List ℕ) (y : ℕ) → is_in y xs ≡ true → assigned_all env xs ws y ≡ assigned_all v xs ws y
inside env v xs ws y e = agree-all xs ws [] env v (none_agree env v) y (within-left xs [] y e)

own_word : (b : Bool) (w v : ℕ) → b ≡ true → (if b then w else v) ≡ w
own_word true w v e = refl
own_word false w v e = absurd (false≢true e)

-- different variables have each its word
pub each_its_word : (env : Env) (xs ws : List ℕ) (i x w : ℕ) → all_different xs ≡ true → slice_get xs i ≡ Some x → slice_get ws i ≡ Some w → assigned_all env xs ws x ≡ w
each_its_word env [] ws i x w d e f = absurd (none-some x e)
each_its_word env (y ∷ xs) [] i x w d e f = absurd (none-some w f)
each_its_word env (y ∷ xs) (v ∷ ws) zero x w d e f =
    let same : x ≡ y = sym (same_Some y x e) in
    let p = and_parts (not (is_in y xs)) (all_different xs) d in
    let out : is_in x xs ≡ false = ap (λ z. is_in z xs) same ∙ not-true (is_in y xs) p.0 in
    outside (assigned env y v) xs ws x out ∙ (own_word (nat_eq x y) v (env x) (eq-eqb x y same) ∙ same_Some v w f)
each_its_word env (y ∷ xs) (v ∷ ws) (suc i) x w d e f = each_its_word (assigned env y v) xs ws i x w (different_right (y ∷ []) xs d) e f

pub mapped_there : (f : ℕ → ℕ) (xs : List ℕ) (i x : ℕ) → slice_get xs i ≡ Some x → slice_get (map f xs) i ≡ Some (f x)
mapped_there f [] i x e = absurd (none-some x e)
mapped_there f (y ∷ xs) zero x e = ap (λ z. Some (f z)) (same_Some y x e)
mapped_there f (y ∷ xs) (suc i) x e = mapped_there f xs i x e

pub each_mapped : (g f : ℕ → ℕ) (xs : List ℕ) → ((i x : ℕ) → slice_get xs i ≡ Some x → g i ≡ f x) → (i v : ℕ) → slice_get (map f xs) i ≡ Some v → g i ≡ v
each_mapped g f [] h i v e = absurd (none-some v e)
each_mapped g f (x ∷ xs) h zero v e = h zero x refl ∙ same_Some (f x) v e
each_mapped g f (x ∷ xs) h (suc i) v e = each_mapped (λ j. g (suc j)) f xs (λ j y k. h (suc j) y k) i v e

pub words_mapped : (env : Env) (xs : List ℕ) → IsEnv env → All IsWord (map env xs)
words_mapped env [] h = All-nil IsWord
words_mapped env (x ∷ xs) h = All-cons IsWord (env x) (map env xs) (h x) (words_mapped env xs h)

pub each_words : (env : Env) (xs : List ℕ) (w : ℕ) → IsEnv env → IsWord w → IsEnv (assigned_each env xs w)
each_words env xs w h g = λ y. either-fits (is_in y xs) w (env y) g (h y)

-- ---- copies

-- each name that is known has the word of the value whose copy it is
pub record HaveWords (of : Names) (known : List ℕ) (env v : Env) : Type 0 where
  pub each : (y : ℕ) → is_in y known ≡ true → env y ≡ v (of y)

-- values are defined
pub words_defined : (of : Names) (known above xs ws : List ℕ) (env v : Env) → Within above known → ((z : ℕ) → is_in z known ≡ true → is_in (of z) above ≡ true) → ((z : ℕ) → is_in z known ≡ false → of z ≡ z)
    → ((z : ℕ) → is_in z known ≡ true → is_in z xs ≡ false) → HaveWords of known env v → HaveWords of (known ++ (xs ++ [])) (assigned_all env xs ws) (assigned_all v xs ws)
words_defined of known above xs ws env v within named own new h = record {
  each = λ y i.
      ⊎_elim
      (λ (k : is_in y known ≡ true). outside env xs ws y (new y k) ∙ (h.each y k ∙ sym (outside v xs ws (of y) (new (of y) (within (of y) (named y k))))))
      (λ (k : is_in y (xs ++ []) ≡ true).
      let there : is_in y xs ≡ true = subst (λ l. is_in y l ≡ true) (append-nil xs) k in
      let unknown_ : is_in y known ≡ false = false_from_ne_true (is_in y known) (λ z. false≢true (sym (new y z) ∙ there)) in
      inside env v xs ws y there ∙ ap (assigned_all v xs ws) (sym (own y unknown_)))
      (in-either y known (xs ++ []) i);
}

clone_word : (b : Bool) (env v : Env) (of : Names) (y z : ℕ) → (b ≡ true → env y ≡ v (of y)) → (b ≡ false → env z ≡ v (of z)) → (if b then env y else env z) ≡ v (if b then of y else of z)
clone_word true env v of y z f g = f refl
clone_word false env v of y z f g = g refl

pub words_cloned : (of : Names) (known xs : List ℕ) (y : ℕ) (env v : Env) → is_in y known ≡ true → HaveWords of known env v → HaveWords (names_after of (Clone xs y)) (known ++ xs) (assigned_each env xs (env y)) v
words_cloned of known xs y env v k h = record {
  each = λ z i.
      clone_word (is_in z xs) env v of y z (λ e. h.each y k)
      (λ e. h.each z (⊎_elim (λ (a : is_in z known ≡ true). a) (λ (a : is_in z xs ≡ true). absurd (false≢true (sym e ∙ a))) (in-either z known xs i)));
}

pub words_kept : (of : Names) (known : List ℕ) (env v : Env) → HaveWords of known env v → HaveWords of (known ++ []) env v
words_kept of known env v h = subst (λ l. HaveWords of l env v) (sym (append-nil known)) h

-- ---- copies of literals

pub record AreNumbered (number : Numbers) (env : Env) : Type 0 where
  pub each : (y n : ℕ) → number y ≡ Some n → env y ≡ word n

number_at : (b : Bool) (o : Option ℕ) (n w : ℕ) (A : Type 0) → (if b then None else o) ≡ Some n → (b ≡ false → o ≡ Some n → A) → A
number_at true o n w A e f = absurd (none-some n e)
number_at false o n w A e f = f refl e

pub numbered_values : (number : Numbers) (env : Env) (xs ws : List ℕ) → AreNumbered number env → AreNumbered (numbered number xs None) (assigned_all env xs ws)
numbered_values number env xs ws h = record {
  each = λ y n e. number_at (is_in y xs) (number y) n 0 (assigned_all env xs ws y ≡ word n) e (λ out k. outside env xs ws y out ∙ h.each y n k);
}

literal_at : (b : Bool) (o : Option ℕ) (v n w : ℕ) → (if (b || false) then Some v else o) ≡ Some n → (o ≡ Some n → w ≡ word n) → (if b then word v else w) ≡ word n
literal_at true o v n w e f = ap word (same_Some v n e)
literal_at false o v n w e f = f e

pub numbered_literal : (number : Numbers) (env : Env) (x v : ℕ) → AreNumbered number env → AreNumbered (numbered number (x ∷ []) (Some v)) (assigned env x (word v))
numbered_literal number env x v h = record { each = λ y n e. literal_at (nat_eq y x) (number y) v n (env y) e (h.each y n) }

cloned_at : (b : Bool) (o r : Option ℕ) (n w u : ℕ) → (if b then o else r) ≡ Some n → (o ≡ Some n → w ≡ word n) → (r ≡ Some n → u ≡ word n) → (if b then w else u) ≡ word n
cloned_at true o r n w u e f g = f e
cloned_at false o r n w u e f g = g e

pub numbered_clones : (number : Numbers) (env : Env) (xs : List ℕ) (y : ℕ) → AreNumbered number env → AreNumbered (numbered number xs (number y)) (assigned_each env xs (env y))
numbered_clones number env xs y h = record { each = λ z n e. cloned_at (is_in z xs) (number y) (number z) n (env y) (env z) e (h.each y n) (h.each z n) }

stretch_at : (o : Option ℕ) (number : Numbers) (env : Env) (y n : ℕ) → number y ≡ o → AreNumbered number env → fits_scratch n o ≡ true → IsSourceStretch Scratch (env y) n
stretch_at (Some v) number env y n k h e = subst (λ w. IsSourceStretch Scratch w n) (sym (h.each y v k)) (source-stretch env Scratch (Literal v) n e)
stretch_at None number env y n k h e = absurd (false≢true e)

-- an address is one that a source can use
pub stretch : (number : Numbers) (env : Env) (m : Mem) (y n : ℕ) → AreNumbered number env → is_address m (number y) n ≡ true → IsSourceStretch m (env y) n
stretch number env Sram y n h e = tt
stretch number env Sdram y n h e = tt
stretch number env Scratch y n h e = stretch_at (number y) number env y n refl h e

-- ---- literals

shift_at : (a b : Bool) (v : ℕ) → ltb v 65536 ≡ a → (eqb (v % 256) 0 && ltb (v / 256) 65536) ≡ b → is_narrow v ≡ true
    → shifted_left (if a then 0 else if b then 8 else 16) (v / 2 ^ (if a then 0 else if b then 8 else 16)) ≡ word v
shift_at true b v e f h = let same : v / 1 * 1 ≡ v = omega arith in ap word same
shift_at false true v e f h =
    let z : v % 256 ≡ 0 = eqb-true (v % 256) 0 (and_parts (eqb (v % 256) 0) (ltb (v / 256) 65536) f).0 in
    let same : v / 256 * 256 ≡ v = omega arith in ap word same
shift_at false false v e f h =
    let n = narrow_is v h in
    ⊎_elim
    (λ (a : v ≡ n.0). let small : v < 65536 = subst (λ w. w < 65536) (sym a) n.1 in absurd (false≢true (sym e ∙ lt-ltb v 65536 small)))
    (λ (r : (v ≡ n.0 * 256) ⊎ (v ≡ n.0 * 65536)).
    ⊎_elim
    (λ (a : v ≡ n.0 * 256). absurd (false≢true (sym f ∙ middle v n.0 n.1 a)))
    (λ (a : v ≡ n.0 * 65536). ap word (upper v n.0 a))
    r)
    n.2
  where
    middle : (v w : ℕ) → w < 65536 → v ≡ w * 256 → (eqb (v % 256) 0 && ltb (v / 256) 65536) ≡ true
    middle v w l e = and_from (eqb (v % 256) 0) (ltb (v / 256) 65536) (eq-eqb (v % 256) 0 (omega arith)) (lt-ltb (v / 256) 65536 (omega arith))

    upper : (v w : ℕ) → v ≡ w * 65536 → v / 65536 * 65536 ≡ v
    upper v w e = omega arith

-- a narrow literal is its half word, shifted
pub literal_word : (v : ℕ) → is_narrow v ≡ true → shifted_left (shift_of v) (v / 2 ^ shift_of v) ≡ word v
literal_word v h = shift_at (ltb v 65536) (eqb (v % 256) 0 && ltb (v / 256) 65536) v refl refl h
