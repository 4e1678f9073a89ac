-- What is kept where windows are replaced by some of their instructions.
use Rattle.std.proofs.Common.{◌≡◌, ℕ, ◌⊎◌, inl, inr, Bool, true, false, List, [], ◌&&◌, ◌∷◌, ◌++◌, map, Option, Some, None, refl, sym, ap, subst}
use Rattle.std.proofs.lemmas.Bool.{false≢true}
use Rattle.nv_base.specs.declared.term.Bin.TheVariants.{Add, Sub, And, Or, Xor}
use Rattle.uc_isa.specs.declared.instruction.Src.{Src}
use Rattle.uc_isa.specs.declared.instruction.Dst.TheVariants as dst
use Rattle.uc_isa.specs.declared.instruction.Instr.{Instr}
use Rattle.uc_isa.specs.declared.instruction.Instr.TheVariants.{Alu, Un, Immed, Br, Read, Write, Halt}
use Rattle.uc_isa.specs.declared.instruction.UnOp.TheVariants.{Copy, Not, Shl, Shr, Rol}
use Rattle.uc_peep.specs.Kept.{compacted, kept_of}
use Rattle.uc_peep.specs.Needless.{dead_rule, idle_rule, back_rule, zero_rule, repeated_rule, is_dead, is_idle, copies_back, compares_zero, tested, tests_again, held_rule, puts_again}
use Rattle.uc_peep.specs.Rewrites.{Answers, Rewrites, IsWithout, Compares}
use Rattle.uc_peep.specs.Rewrites.Rewrites.{Same, Replaced, Relocated, InTurn}
use Rattle.uc_peep.specs.Rewrites.IsWithout.{Nothing, Gone, Tested, Stays}
use Rattle.uc_peep.specs.Rules.{IsSomeOf}
use Rattle.uc_peep.proofs.Sound.{both, given}
use Rattle.uc_isa.specs.Relocated.{relocated}
use Rattle.uc_isa.specs.StraightCode.{IsStraight}

pub compacted-kept_of : (f : ℕ → ℕ) (gone : List Bool) (code : List Instr) → compacted f gone code ≡ map (relocated f) (kept_of gone code)
compacted-kept_of f [] code = refl
compacted-kept_of f (g ∷ gone) [] = refl
compacted-kept_of f (true ∷ gone) (i ∷ code) = compacted-kept_of f gone code
compacted-kept_of f (false ∷ gone) (i ∷ code) = ap (λ l. relocated f i ∷ l) (compacted-kept_of f gone code)

relocated-nowhere : (i : Instr) → relocated (λ x. x) i ≡ i
relocated-nowhere (Alu d op x y) = refl
relocated-nowhere (Un d op x) = refl
relocated-nowhere (Immed d v k) = refl
relocated-nowhere (Br cond target) = refl
relocated-nowhere (Read m r n x off) = refl
relocated-nowhere (Write m r n x off) = refl
relocated-nowhere (Halt k n) = refl

relocated-twice : (f g : ℕ → ℕ) (i : Instr) → relocated (λ x. g (f x)) i ≡ relocated g (relocated f i)
relocated-twice f g (Alu d op x y) = refl
relocated-twice f g (Un d op x) = refl
relocated-twice f g (Immed d v k) = refl
relocated-twice f g (Br cond target) = refl
relocated-twice f g (Read m r n x off) = refl
relocated-twice f g (Write m r n x off) = refl
relocated-twice f g (Halt k n) = refl

straight-relocated : (f : ℕ → ℕ) (i : Instr) → IsStraight (relocated f i) → IsStraight i
straight-relocated f (Alu d op x y) h = tt
straight-relocated f (Un d op x) h = tt
straight-relocated f (Immed d v k) h = tt
straight-relocated f (Br cond target) h = absurd h
straight-relocated f (Read m r n x off) h = absurd h
straight-relocated f (Write m r n x off) h = absurd h
straight-relocated f (Halt k n) h = absurd h

pub compares-straight : (x : Src) (i : Instr) → Compares x i → IsStraight i
compares-straight x (Alu d op y z) h = tt
compares-straight x (Un d op y) h = tt
compares-straight x (Immed d v k) h = tt
compares-straight x (Br cond target) h = absurd h
compares-straight x (Read m r n y off) h = absurd h
compares-straight x (Write m r n y off) h = absurd h
compares-straight x (Halt k n) h = absurd h

compares-relocated : (f : ℕ → ℕ) (x : Src) (i : Instr) → Compares x (relocated f i) → Compares x i
compares-relocated f x (Alu d op y z) h = h
compares-relocated f x (Un d op y) h = absurd h
compares-relocated f x (Immed d v k) h = absurd h
compares-relocated f x (Br cond target) h = absurd h
compares-relocated f x (Read m r n y off) h = absurd h
compares-relocated f x (Write m r n y off) h = absurd h
compares-relocated f x (Halt k n) h = absurd h

stays : (i : Instr) (code code' : List Instr) → IsWithout code code' → IsWithout (i ∷ code) (i ∷ code')
stays i code code' h = subst (λ j. IsWithout (i ∷ code) (j ∷ code')) (relocated-nowhere i) (Stays (λ x. x) i code code' h)

pub without-none : (code : List Instr) → IsWithout code code
without-none [] = Nothing
without-none (i ∷ code) = stays i code code (without-none code)

without-relocated : (f : ℕ → ℕ) (code : List Instr) → IsWithout code (map (relocated f) code)
without-relocated f [] = Nothing
without-relocated f (i ∷ code) = Stays f i code (map (relocated f) code) (without-relocated f code)

without-front : (front code code' : List Instr) → IsWithout code code' → IsWithout (front ++ code) (front ++ code')
without-front [] code code' h = h
without-front (i ∷ front) code code' h = stays i (front ++ code) (front ++ code') (without-front front code code' h)

without-both : (a a' b : List Instr) → IsWithout a a' → IsWithout (a ++ b) (a' ++ b)
without-both a a' b Nothing = without-none b
without-both a a' b (Gone i code code' straight h) = Gone i (code ++ b) (code' ++ b) straight (without-both code code' b h)
without-both a a' b (Tested i x code code' compares h) = Tested i x (code ++ b) (code' ++ b) compares (without-both code code' b h)
without-both a a' b (Stays f i code code' h) = Stays f i (code ++ b) (code' ++ b) (without-both code code' b h)

pub without-trans : (a b c : List Instr) → IsWithout a b → IsWithout b c → IsWithout a c
without-trans a b c Nothing g = g
without-trans a b c (Gone i code code' straight h) g = Gone i code c straight (without-trans code code' c h g)
without-trans a b c (Tested i x code code' compares h) (Gone j more more' straight g) = Gone i code more' (compares-straight x i compares) (without-trans code code' more' h g)
without-trans a b c (Tested i x code code' compares h) (Tested j y more more' again g) = absurd again
without-trans a b c (Tested i x code code' compares h) (Stays f j more more' g) = Tested i x code more' compares (without-trans code code' more' h g)
without-trans a b c (Stays f i code code' h) (Tested j x more more' compares g) = Tested i x code more' (compares-relocated f x i compares) (without-trans code code' more' h g)
without-trans a b c (Stays f i code code' h) (Gone j more more' straight g) = Gone i code more' (straight-relocated f i straight) (without-trans code code' more' h g)
without-trans a b c (Stays f i code code' h) (Stays f' j more more' g) =
    subst (λ j. IsWithout (i ∷ code) (j ∷ more')) (relocated-twice f f' i) (Stays (λ x. f' (f x)) i code more' (without-trans code code' more' h g))

pub rewrites-without : (A : Answers) → ((ws : List Instr) (set : ℕ) (shorter : List Instr) → A ws set (Some shorter) → IsWithout ws shorter) → (code code' : List Instr) → Rewrites A code code' → IsWithout code code'
rewrites-without A f a b (Same code) = without-none code
rewrites-without A f a b (Replaced front window shorter rest set answer) = without-front front (window ++ rest) (shorter ++ rest) (without-both window shorter rest (f window set shorter answer))
rewrites-without A f a b (Relocated to code) = without-relocated to code
rewrites-without A f a b (InTurn first second third h g) = without-trans first second third (rewrites-without A f first second h) (rewrites-without A f second third g)

-- ---- the six rules

dead-straight : (i : Instr) (set : ℕ) → is_dead i set ≡ true → IsStraight i
dead-straight (Alu d op x y) set h = tt
dead-straight (Un d op x) set h = tt
dead-straight (Immed d v k) set h = tt
dead-straight (Br cond target) set h = absurd (false≢true h)
dead-straight (Read m r n x off) set h = absurd (false≢true h)
dead-straight (Write m r n x off) set h = absurd (false≢true h)
dead-straight (Halt k n) set h = absurd (false≢true h)

idle-straight : (i : Instr) (set : ℕ) → is_idle i set ≡ true → IsStraight i
idle-straight (Alu d op x y) set h = tt
idle-straight (Un d op x) set h = tt
idle-straight (Immed d v k) set h = tt
idle-straight (Br cond target) set h = absurd (false≢true h)
idle-straight (Read m r n x off) set h = absurd (false≢true h)
idle-straight (Write m r n x off) set h = absurd (false≢true h)
idle-straight (Halt k n) set h = absurd (false≢true h)

copies-straight : (i j : Instr) → copies_back i j ≡ true → IsStraight j
copies-straight i (Alu d op x y) h = tt
copies-straight i (Un d op x) h = tt
copies-straight i (Immed d v k) h = tt
copies-straight (Un d Copy x) (Br cond target) h = absurd (false≢true h)
copies-straight (Un d Copy x) (Read m r n y off) h = absurd (false≢true h)
copies-straight (Un d Copy x) (Write m r n y off) h = absurd (false≢true h)
copies-straight (Un d Copy x) (Halt k n) h = absurd (false≢true h)
copies-straight (Un d Not x) j h = absurd (false≢true h)
copies-straight (Un d (Shl k) x) j h = absurd (false≢true h)
copies-straight (Un d (Shr k) x) j h = absurd (false≢true h)
copies-straight (Un d (Rol k) x) j h = absurd (false≢true h)
copies-straight (Alu d op x y) j h = absurd (false≢true h)
copies-straight (Immed d v k) j h = absurd (false≢true h)
copies-straight (Br cond target) j h = absurd (false≢true h)
copies-straight (Read m r n x off) j h = absurd (false≢true h)
copies-straight (Write m r n x off) j h = absurd (false≢true h)
copies-straight (Halt k n) j h = absurd (false≢true h)

dead-without : (ws : List Instr) (set : ℕ) (shorter : List Instr) → dead_rule ws set ≡ Some shorter → IsWithout ws shorter
dead-without [] set shorter h = absurd cc
dead-without (i ∷ []) set shorter h =
    let t = given (is_dead i set) [] shorter h in
    subst (IsWithout (i ∷ [])) t.1 (Gone i [] [] (dead-straight i set t.0) Nothing)
dead-without (i ∷ j ∷ ws) set shorter h = absurd cc

idle-without : (ws : List Instr) (set : ℕ) (shorter : List Instr) → idle_rule ws set ≡ Some shorter → IsWithout ws shorter
idle-without [] set shorter h = absurd cc
idle-without (i ∷ []) set shorter h =
    let t = given (is_idle i set) [] shorter h in
    subst (IsWithout (i ∷ [])) t.1 (Gone i [] [] (idle-straight i set t.0) Nothing)
idle-without (i ∷ j ∷ ws) set shorter h = absurd cc

back-without : (ws : List Instr) (set : ℕ) (shorter : List Instr) → back_rule ws set ≡ Some shorter → IsWithout ws shorter
back-without [] set shorter h = absurd cc
back-without (i ∷ []) set shorter h = absurd cc
back-without (i ∷ j ∷ []) set shorter h =
    let t = given (copies_back i j) (i ∷ []) shorter h in
    subst (IsWithout (i ∷ j ∷ [])) t.1 (stays i (j ∷ []) [] (Gone j [] [] (copies-straight i j t.0) Nothing))
back-without (i ∷ j ∷ k ∷ ws) set shorter h = absurd cc

compared-without : (i j : Instr) (set : ℕ) → compares_zero i j set ≡ true → IsWithout (i ∷ j ∷ []) (tested j ∷ [])
compared-without (Immed d v k) (Alu dst.Nowhere Sub x y) set h = Gone (Immed d v k) (Alu dst.Nowhere Sub x y ∷ []) (Un dst.Nowhere Copy x ∷ []) tt (Tested (Alu dst.Nowhere Sub x y) x [] [] refl Nothing)
compared-without (Immed d v k) (Alu dst.Nowhere Add x y) set h = absurd (false≢true h)
compared-without (Immed d v k) (Alu dst.Nowhere And x y) set h = absurd (false≢true h)
compared-without (Immed d v k) (Alu dst.Nowhere Or x y) set h = absurd (false≢true h)
compared-without (Immed d v k) (Alu dst.Nowhere Xor x y) set h = absurd (false≢true h)
compared-without (Immed d v k) (Alu (dst.A r) op x y) set h = absurd (false≢true h)
compared-without (Immed d v k) (Alu (dst.B r) op x y) set h = absurd (false≢true h)
compared-without (Immed d v k) (Alu (dst.S r) op x y) set h = absurd (false≢true h)
compared-without (Immed d v k) (Alu (dst.SD r) op x y) set h = absurd (false≢true h)
compared-without (Immed d v k) (Un d' op x) set h = absurd (false≢true h)
compared-without (Immed d v k) (Immed d' v' k') set h = absurd (false≢true h)
compared-without (Immed d v k) (Br b t) set h = absurd (false≢true h)
compared-without (Immed d v k) (Read m r n y off) set h = absurd (false≢true h)
compared-without (Immed d v k) (Write m r n y off) set h = absurd (false≢true h)
compared-without (Immed d v k) (Halt m n) set h = absurd (false≢true h)
compared-without (Alu d op x y) j set h = absurd (false≢true h)
compared-without (Un d op x) j set h = absurd (false≢true h)
compared-without (Br b t) j set h = absurd (false≢true h)
compared-without (Read m r n y off) j set h = absurd (false≢true h)
compared-without (Write m r n y off) j set h = absurd (false≢true h)
compared-without (Halt m n) j set h = absurd (false≢true h)

zero-without : (ws : List Instr) (set : ℕ) (shorter : List Instr) → zero_rule ws set ≡ Some shorter → IsWithout ws shorter
zero-without [] set shorter h = absurd cc
zero-without (i ∷ []) set shorter h = absurd cc
zero-without (i ∷ j ∷ []) set shorter h =
    let t = given (compares_zero i j set) (tested j ∷ []) shorter h in
    subst (IsWithout (i ∷ j ∷ [])) t.1 (compared-without i j set t.0)
zero-without (i ∷ j ∷ k ∷ ws) set shorter h = absurd cc

tests-straight : (i j : Instr) (set : ℕ) → tests_again i j set ≡ true → IsStraight j
tests-straight i (Alu d op x y) set h = tt
tests-straight i (Un d op x) set h = tt
tests-straight i (Immed d v k) set h = tt
tests-straight i (Br cond target) set h = absurd (false≢true h)
tests-straight i (Read m r n x off) set h = absurd (false≢true h)
tests-straight i (Write m r n x off) set h = absurd (false≢true h)
tests-straight i (Halt k n) set h = absurd (false≢true h)

repeated-without : (ws : List Instr) (set : ℕ) (shorter : List Instr) → repeated_rule ws set ≡ Some shorter → IsWithout ws shorter
repeated-without [] set shorter h = absurd cc
repeated-without (i ∷ []) set shorter h = absurd cc
repeated-without (i ∷ j ∷ []) set shorter h =
    let t = given (tests_again i j set) (i ∷ []) shorter h in
    subst (IsWithout (i ∷ j ∷ [])) t.1 (stays i (j ∷ []) [] (Gone j [] [] (tests-straight i j set t.0) Nothing))
repeated-without (i ∷ j ∷ k ∷ ws) set shorter h = absurd cc

again-straight : (i m l : Instr) → puts_again i m l ≡ true → IsStraight l
again-straight i m (Alu d op x y) h = tt
again-straight i m (Un d op x) h = tt
again-straight i m (Immed d v k) h = tt
again-straight (Immed d v k) m (Br b t) h = absurd (false≢true h)
again-straight (Immed d v k) m (Read r q n x off) h = absurd (false≢true h)
again-straight (Immed d v k) m (Write r q n x off) h = absurd (false≢true h)
again-straight (Immed d v k) m (Halt q n) h = absurd (false≢true h)
again-straight (Alu d op x y) m l h = absurd (false≢true h)
again-straight (Un d op x) m l h = absurd (false≢true h)
again-straight (Br b t) m l h = absurd (false≢true h)
again-straight (Read r q n x off) m l h = absurd (false≢true h)
again-straight (Write r q n x off) m l h = absurd (false≢true h)
again-straight (Halt q n) m l h = absurd (false≢true h)

held-without : (ws : List Instr) (set : ℕ) (shorter : List Instr) → held_rule ws set ≡ Some shorter → IsWithout ws shorter
held-without [] set shorter h = absurd cc
held-without (i ∷ []) set shorter h = absurd cc
held-without (i ∷ j ∷ []) set shorter h = absurd cc
held-without (i ∷ j ∷ l ∷ []) set shorter h =
    let t = given (puts_again i j l) (i ∷ j ∷ []) shorter h in
    subst (IsWithout (i ∷ j ∷ l ∷ [])) t.1 (stays i (j ∷ l ∷ []) (j ∷ []) (stays j (l ∷ []) [] (Gone l [] [] (again-straight i j l t.0) Nothing)))
held-without (i ∷ j ∷ k ∷ l ∷ []) set shorter h =
    let t = given (puts_again i j l && puts_again i k l) (i ∷ j ∷ k ∷ []) shorter h in
    subst (IsWithout (i ∷ j ∷ k ∷ l ∷ [])) t.1
    (stays i (j ∷ k ∷ l ∷ []) (j ∷ k ∷ []) (stays j (k ∷ l ∷ []) (k ∷ []) (stays k (l ∷ []) [] (Gone l [] [] (again-straight i j l (both _ _ t.0).0) Nothing))))
held-without (i ∷ j ∷ k ∷ l ∷ m ∷ ws) set shorter h = absurd cc

pub needless-without : (A B C D E F : Answers) (code code' : List Instr)
    → ((ws : List Instr) (set : ℕ) (o : Option (List Instr)) → A ws set o → o ≡ dead_rule ws set)
    → ((ws : List Instr) (set : ℕ) (o : Option (List Instr)) → B ws set o → o ≡ idle_rule ws set)
    → ((ws : List Instr) (set : ℕ) (o : Option (List Instr)) → C ws set o → o ≡ back_rule ws set)
    → ((ws : List Instr) (set : ℕ) (o : Option (List Instr)) → D ws set o → o ≡ zero_rule ws set)
    → ((ws : List Instr) (set : ℕ) (o : Option (List Instr)) → E ws set o → o ≡ repeated_rule ws set)
    → ((ws : List Instr) (set : ℕ) (o : Option (List Instr)) → F ws set o → o ≡ held_rule ws set)
    → Rewrites (λ ws set o. (IsSomeOf o × A ws set o) ⊎ (A ws set None × ((IsSomeOf o × B ws set o) ⊎ (B ws set None × ((IsSomeOf o × C ws set o) ⊎ (C ws set None × ((IsSomeOf o × D ws set o) ⊎ (D ws set None × ((IsSomeOf o × E ws set o) ⊎ (E ws set None × F ws set o)))))))))) code code'
    → IsWithout code code'
needless-without A B C D E F code code' f g h d r l = rewrites-without _ each code code'
  where
    each : (ws : List Instr) (set : ℕ) (shorter : List Instr)
        → (IsSomeOf (Some shorter) × A ws set (Some shorter)) ⊎ (A ws set None × ((IsSomeOf (Some shorter) × B ws set (Some shorter)) ⊎ (B ws set None × ((IsSomeOf (Some shorter) × C ws set (Some shorter)) ⊎ (C ws set None × ((IsSomeOf (Some shorter) × D ws set (Some shorter)) ⊎ (D ws set None × ((IsSomeOf (Some shorter) × E ws set (Some shorter)) ⊎ (E ws set None × F ws set (Some shorter)))))))))) → IsWithout ws shorter
    each ws set shorter (inl a) = dead-without ws set shorter (sym (f ws set (Some shorter) a.1))
    each ws set shorter (inr (a, inl b)) = idle-without ws set shorter (sym (g ws set (Some shorter) b.1))
    each ws set shorter (inr (a, inr (b, inl c))) = back-without ws set shorter (sym (h ws set (Some shorter) c.1))
    each ws set shorter (inr (a, inr (b, inr (c, inl z)))) = zero-without ws set shorter (sym (d ws set (Some shorter) z.1))
    each ws set shorter (inr (a, inr (b, inr (c, inr (z, inl t))))) = repeated-without ws set shorter (sym (r ws set (Some shorter) t.1))
    each ws set shorter (inr (a, inr (b, inr (c, inr (z, inr (t, v)))))) = held-without ws set shorter (sym (l ws set (Some shorter) v))
