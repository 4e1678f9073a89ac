-- Where none of six rules has an answer.
use Rattle.std.proofs.Common.{◌≡◌, ℕ, ◌⊎◌, inl, inr, List, take, drop, Option, None, sym, Result, Ok, Err}
use Rattle.std.specs.Prelude.{IfOk}
use Rattle.uc_isa.specs.declared.instruction.Instr.{Instr}
use Rattle.uc_peep.specs.Rewrites.{Answers}
use Rattle.uc_peep.specs.Needless.{HasNoNeedless, dead_rule, idle_rule, back_rule, zero_rule, repeated_rule, held_rule}
use Rattle.uc_peep.specs.Becomes.{IsPeeped}
use Rattle.uc_peep.specs.Rules.{IsSomeOf}

pub if-ok-map : {X E : Type 0} (o : Result X E) (P Q : X → Type 0) → ((x : X) → P x → Q x) → IfOk o P → IfOk o Q
if-ok-map (Ok x) P Q f h = f x h
if-ok-map (Err e) P Q f h = tt

-- each is asked where none before it has an answer
abbrev pub InTurn : Answers → Answers → Answers → Answers → Answers → Answers → Answers
InTurn A B C D E F = λ ws set o. (IsSomeOf o × A ws set o) ⊎ (A ws set None × ((IsSomeOf o × B ws set o) ⊎ (B ws set None × ((IsSomeOf o × C ws set o) ⊎ (C ws set None × ((IsSomeOf o × D ws set o) ⊎ (D ws set None × ((IsSomeOf o × E ws set o) ⊎ (E ws set None × F ws set o)))))))))

none-in-turn : (A B C D E F : Answers) (ws : List Instr) (set : ℕ) → InTurn A B C D E F ws set None → A ws set None × B ws set None × C ws set None × D ws set None × E ws set None × F ws set None
none-in-turn A B C D E F ws set (inl k) = absurd (let e = k.0.1 in cc)
none-in-turn A B C D E F ws set (inr (k, inl l)) = absurd (let e = l.0.1 in cc)
none-in-turn A B C D E F ws set (inr (k, inr (l, inl m))) = absurd (let e = m.0.1 in cc)
none-in-turn A B C D E F ws set (inr (k, inr (l, inr (m, inl n)))) = absurd (let e = n.0.1 in cc)
none-in-turn A B C D E F ws set (inr (k, inr (l, inr (m, inr (n, inl o))))) = absurd (let e = o.0.1 in cc)
none-in-turn A B C D E F ws set (inr (k, inr (l, inr (m, inr (n, inr (o, q)))))) = (k, l, m, n, o, q)

pub settled-in-turn : (A B C D E F : Answers) (code : List Instr) (starts : List ℕ) (code' : List Instr) (starts' : List ℕ)
    → ((ws : List Instr) (set : ℕ) (o : Option (List Instr)) → A ws set o → o ≡ dead_rule ws set)
    → ((ws : List Instr) (set : ℕ) (o : Option (List Instr)) → B ws set o → o ≡ idle_rule ws set)
    → ((ws : List Instr) (set : ℕ) (o : Option (List Instr)) → C ws set o → o ≡ back_rule ws set)
    → ((ws : List Instr) (set : ℕ) (o : Option (List Instr)) → D ws set o → o ≡ zero_rule ws set)
    → ((ws : List Instr) (set : ℕ) (o : Option (List Instr)) → E ws set o → o ≡ repeated_rule ws set)
    → ((ws : List Instr) (set : ℕ) (o : Option (List Instr)) → F ws set o → o ≡ held_rule ws set)
    → IsPeeped (λ ws set o. (IsSomeOf o × A ws set o) ⊎ (A ws set None × ((IsSomeOf o × B ws set o) ⊎ (B ws set None × ((IsSomeOf o × C ws set o) ⊎ (C ws set None × ((IsSomeOf o × D ws set o) ⊎ (D ws set None × ((IsSomeOf o × E ws set o) ⊎ (E ws set None × F ws set o)))))))))) code starts code' starts'
    → HasNoNeedless code' starts'
settled-in-turn A B C D E F code starts code' starts' f g h i j l peeped p k w =
    let s = peeped.settled p k w in
    let n = none-in-turn A B C D E F (take k (drop p code')) s.0 s.2 in
    (s.0, s.1, (sym (f _ _ _ n.0), sym (g _ _ _ n.1), sym (h _ _ _ n.2)), (sym (i _ _ _ n.3), sym (j _ _ _ n.4), sym (l _ _ _ n.5)))
