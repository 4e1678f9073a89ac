-- Words and parameters that stay.
use Rattle.std.proofs.Common.{◌≡◌, ℕ, suc, ◌≤◌, Bool, true, false, not, ◌&&◌, List, [], ◌∷◌, ◌++◌, refl, ap, ◌∙◌, length, if◌then◌else◌, arith}
use Rattle.std.proofs.lemmas.Bool.{and_parts, and_from, not-true, not_from_false, false≢true}
use Rattle.nv_base.specs.declared.term.Atom.{Atom}
use Rattle.nv_base.specs.Words.{Env, atom_word, atom_words, atom_vars}
use Rattle.nv_base.specs.Sets.{is_in, all_different, all_vars, without, Within}
use Rattle.nv_base.proofs.Sets.{in-without}
use Rattle.flow_ir.proofs.Members.{either, in-left, in-right}
use Rattle.flow_merge.specs.inner.Pruned.{kept_words}

-- ---- words

words_at : (g : Bool) (env : Env) (b : Atom) (bs : List Atom) (ws : List ℕ) → atom_words env bs ≡ ws → atom_words env (if g then bs else b ∷ bs) ≡ (if g then ws else atom_word env b ∷ ws)
words_at true env b bs ws e = e
words_at false env b bs ws e = ap (λ v. atom_word env b ∷ v) e

pub kept_map : (gone ps : List ℕ) (bs : List Atom) (env : Env) → atom_words env (kept_words gone ps bs) ≡ kept_words gone ps (atom_words env bs)
kept_map gone [] bs env = refl
kept_map gone (p ∷ ps) [] env = refl
kept_map gone (p ∷ ps) (b ∷ bs) env = words_at (is_in p gone) env b (kept_words gone ps bs) (kept_words gone ps (atom_words env bs)) (kept_map gone ps bs env)

vars_at : (g : Bool) (b : Atom) (ks bs : List Atom) → Within (all_vars ks) (all_vars bs) → Within (all_vars (if g then ks else b ∷ ks)) (all_vars (b ∷ bs))
vars_at true b ks bs h = λ y i. in-right y (atom_vars b) (all_vars bs) (h y i)
vars_at false b ks bs h = λ y i. either y (atom_vars b) (all_vars ks) i (λ q. in-left y (atom_vars b) (all_vars bs) q) (λ q. in-right y (atom_vars b) (all_vars bs) (h y q))

pub kept_within : (gone ps : List ℕ) (bs : List Atom) → Within (all_vars (kept_words gone ps bs)) (all_vars bs)
kept_within gone [] bs = λ y i. absurd (false≢true i)
kept_within gone (p ∷ ps) [] = λ y i. absurd (false≢true i)
kept_within gone (p ∷ ps) (b ∷ bs) = vars_at (is_in p gone) b (kept_words gone ps bs) bs (kept_within gone ps bs)

length_at : (g : Bool) (p : ℕ) (b : Atom) (ks : List Atom) (xs : List ℕ) → length ks ≡ length xs → length (if g then ks else b ∷ ks) ≡ length (if g then xs else p ∷ xs)
length_at true p b ks xs e = e
length_at false p b ks xs e = ap suc e

pub kept_length : (gone ps : List ℕ) (bs : List Atom) → length ps ≡ length bs → length (kept_words gone ps bs) ≡ length (without ps gone)
kept_length gone [] bs e = refl
kept_length gone (p ∷ ps) [] e = absurd (omega arith)
kept_length gone (p ∷ ps) (b ∷ bs) e = length_at (is_in p gone) p b (kept_words gone ps bs) (without ps gone) (kept_length gone ps bs (omega arith))

shorter_at : (g : Bool) (b : Atom) (ks bs : List Atom) → length ks ≤ length bs → length (if g then ks else b ∷ ks) ≤ length (b ∷ bs)
shorter_at true b ks bs le = omega arith
shorter_at false b ks bs le = omega arith

pub kept_shorter : (gone ps : List ℕ) (bs : List Atom) → length (kept_words gone ps bs) ≤ length bs
kept_shorter gone [] bs = omega arith
kept_shorter gone (p ∷ ps) [] = omega arith
kept_shorter gone (p ∷ ps) (b ∷ bs) = shorter_at (is_in p gone) b (kept_words gone ps bs) bs (kept_shorter gone ps bs)

pub kept_none : (gone ps ws : List ℕ) → ws ≡ [] → kept_words gone ps ws ≡ []
kept_none gone [] ws e = refl
kept_none gone (p ∷ ps) ws e = ap (kept_words gone (p ∷ ps)) e

-- where none goes
pub kept_all : (ps ws : List ℕ) → length ws ≡ length ps → kept_words [] ps ws ≡ ws
kept_all [] [] e = refl
kept_all [] (w ∷ ws) e = absurd (omega arith)
kept_all (p ∷ ps) [] e = refl
kept_all (p ∷ ps) (w ∷ ws) e = ap (λ v. w ∷ v) (kept_all ps ws (omega arith))

-- ---- parameters

pub without_none : (ps : List ℕ) → without ps [] ≡ ps
without_none [] = refl
without_none (p ∷ ps) = ap (λ v. p ∷ v) (without_none ps)

fewer_at : (g : Bool) (p : ℕ) (xs ps : List ℕ) → length xs ≤ length ps → length (if g then xs else p ∷ xs) ≤ length (p ∷ ps)
fewer_at true p xs ps le = omega arith
fewer_at false p xs ps le = omega arith

pub without_shorter : (ps gone : List ℕ) → length (without ps gone) ≤ length ps
without_shorter [] gone = omega arith
without_shorter (p ∷ ps) gone = fewer_at (is_in p gone) p (without ps gone) ps (without_shorter ps gone)

pub out_without : (y : ℕ) (a gone : List ℕ) → is_in y a ≡ false → is_in y (without a gone) ≡ false
out_without y a gone e = in-without y a gone ∙ ap (λ b. b && not (is_in y gone)) e

once_at : (g : Bool) (p : ℕ) (xs : List ℕ) → is_in p xs ≡ false → all_different xs ≡ true → all_different (if g then xs else p ∷ xs) ≡ true
once_at true p xs o d = d
once_at false p xs o d = and_from (not (is_in p xs)) (all_different xs) (not_from_false (is_in p xs) o) d

pub without_different : (a gone : List ℕ) → all_different a ≡ true → all_different (without a gone) ≡ true
without_different [] gone d = refl
without_different (p ∷ ps) gone d =
    let parts = and_parts (not (is_in p ps)) (all_different ps) d in
    once_at (is_in p gone) p (without ps gone) (out_without p ps gone (not-true (is_in p ps) parts.0)) (without_different ps gone parts.1)

-- ---- one more

front_at : (g : Bool) (q : ℕ) (xs ys zs : List ℕ) → xs ≡ ys ++ zs → (if g then xs else q ∷ xs) ≡ (if g then ys else q ∷ ys) ++ zs
front_at true q xs ys zs e = e
front_at false q xs ys zs e = ap (λ v. q ∷ v) e

pub without_last : (ps : List ℕ) (p : ℕ) (gone : List ℕ) → without (ps ++ p ∷ []) gone ≡ without ps gone ++ without (p ∷ []) gone
without_last [] p gone = refl
without_last (q ∷ ps) p gone = front_at (is_in q gone) q (without (ps ++ p ∷ []) gone) (without ps gone) (without (p ∷ []) gone) (without_last ps p gone)
