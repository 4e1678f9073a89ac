-- Environments whose variables have words.
use Rattle.std.proofs.Common.{ℕ, Bool, true, false, nat_eq, List, [], ◌∷◌, All, if◌then◌else◌, arith}
use Rattle.std.proofs.lemmas.List.Elements.{All-nil, All-cons, All-head, All-tail}
use Rattle.nv_base.specs.declared.term.Atom.{Atom}
use Rattle.nv_base.specs.declared.term.Atom.TheVariants.{Var, Lit}
use Rattle.nv_base.specs.declared.term.Primitive.{Primitive}
use Rattle.nv_base.specs.declared.term.Primitive.TheVariants.{Same, Una as UnaOf, Bin as BinOf}
use Rattle.nv_base.specs.Words.{IsWord, Env, IsEnv, HasPrimCount, assigned, assigned_all, atom_word, atom_words, prim_word}
use Rattle.nv_base.proofs.WordLemmas.{word-fits, una-fits, bin-fits}

pub zero-fits : IsWord 0
zero-fits = omega arith

pub blank-env : IsEnv (λ x. 0)
blank-env = λ x. zero-fits

pub either-fits : (b : Bool) (w v : ℕ) → IsWord w → IsWord v → IsWord (if b then w else v)
either-fits true w v f g = f
either-fits false w v f g = g

pub assigned-env : (env : Env) (x w : ℕ) → IsEnv env → IsWord w → IsEnv (assigned env x w)
assigned-env env x w h f = λ y. either-fits (nat_eq y x) w (env y) f (h y)

pub assigned-all-env : (env : Env) (xs ws : List ℕ) → IsEnv env → All IsWord ws → IsEnv (assigned_all env xs ws)
assigned-all-env env [] ws h f = h
assigned-all-env env (x ∷ xs) [] h f = assigned-all-env (assigned env x 0) xs [] (assigned-env env x 0 h zero-fits) f
assigned-all-env env (x ∷ xs) (w ∷ ws) h f = assigned-all-env (assigned env x w) xs ws (assigned-env env x w h (All-head IsWord w ws f)) (All-tail IsWord w ws f)

pub atom-fits : (env : Env) (a : Atom) → IsEnv env → IsWord (atom_word env a)
atom-fits env (Var x) h = h x
atom-fits env (Lit v) h = word-fits v

pub atoms-fit : (env : Env) (as' : List Atom) → IsEnv env → All IsWord (atom_words env as')
atoms-fit env [] h = All-nil IsWord
atoms-fit env (a ∷ as') h = All-cons IsWord (atom_word env a) (atom_words env as') (atom-fits env a h) (atoms-fit env as' h)

pub prim-fits : (env : Env) (p : Primitive) → IsEnv env → HasPrimCount p → IsWord (prim_word env p)
prim-fits env (Same a) h count = atom-fits env a h
prim-fits env (UnaOf op a) h count = una-fits op (atom_word env a) count (atom-fits env a h)
prim-fits env (BinOf op a b) h count = bin-fits op (atom_word env a) (atom_word env b) (atom-fits env a h) (atom-fits env b h)
