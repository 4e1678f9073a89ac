use Rattle.std.proofs.Common.{ℕ, ◌+◌, ◌<◌, ◌∙◌, List, Option, sym, subst, take, drop, get_or, length, arith}
use Rattle.std.proofs.lemmas.Grind.{get_or_default_zero}
use Rattle.uc_isa.specs.declared.instruction.Instr.{Instr}
use Rattle.uc_peep.specs.Window.{IsText, IsShorter}
use Rattle.uc_peep.specs.Draft.{MayReplace}
use Rattle.uc_peep.proofs.Asked.{is-text, may-replace, span, asked-some, asked-none}
use Rattle.uc_peep.proofs.windows.ask.Goals as goal

pub shorter-requires-clause-text : goal.shorter-requires-clause-text
shorter-requires-clause-text g c = subst (λ n. IsText (take n (drop c.args.p c.args.code.now))) (sym (span c.args.p c.args.k)) (is-text c.args.code.now c.args.gone.now c.args.entered.now c.args.started.now c.args.p c.args.k c.requires.lawful c.requires.some c.requires.few (may-replace c.args.code.now c.args.gone.now c.args.entered.now c.args.started.now c.args.p c.args.k c.requires.inside c.requires.open_ (c.is_end_clear.ensures.0 c.if-not-is_end_clear.false)))

pub returns-clause-some : goal.returns-clause-some
returns-clause-some g c =
    let A = λ (ws : List Instr) (set : ℕ) (o : Option (List Instr)). g.R.Window.answers c.args.r.now ws set o in
    let may : MayReplace c.args.code.now c.args.gone.now c.args.entered.now c.args.started.now c.args.p c.args.k = may-replace c.args.code.now c.args.gone.now c.args.entered.now c.args.started.now c.args.p c.args.k c.requires.inside c.requires.open_ (c.is_end_clear.ensures.0 c.if-not-is_end_clear.false) in
    let inside : c.args.p + c.args.k < length c.args.sets.now = let h = may.inside in let s = c.requires.sets in omega arith in
    asked-some c.shorter.result (A (take c.args.k (drop c.args.p c.args.code.now)) (get_or c.args.sets.now (c.args.p + c.args.k) 0))
    (MayReplace c.args.code.now c.args.gone.now c.args.entered.now c.args.started.now c.args.p c.args.k)
    (λ l. IsShorter (take c.args.k (drop c.args.p c.args.code.now)) (get_or c.args.sets.now (c.args.p + c.args.k) 0) l)
    (λ l a. g.met.R.Window.sound c.args.r.now (take c.args.k (drop c.args.p c.args.code.now)) (get_or c.args.sets.now (c.args.p + c.args.k) 0) l c.requires.ready (is-text c.args.code.now c.args.gone.now c.args.entered.now c.args.started.now c.args.p c.args.k c.requires.lawful c.requires.some c.requires.few may) a)
    may
    (subst (λ n. A (take c.args.k (drop c.args.p c.args.code.now)) n c.shorter.result) (c.index-sets-p.is ∙ get_or_default_zero c.args.sets.now (c.args.p + c.args.k) c.index-sets-p.result inside)
    (subst (λ n. A (take n (drop c.args.p c.args.code.now)) c.index-sets-p.result c.shorter.result) (span c.args.p c.args.k) c.shorter.ensures))

pub returns-clause-none : goal.returns-clause-none
returns-clause-none g c =
    let A = λ (ws : List Instr) (set : ℕ) (o : Option (List Instr)). g.R.Window.answers c.args.r.now ws set o in
    let may : MayReplace c.args.code.now c.args.gone.now c.args.entered.now c.args.started.now c.args.p c.args.k = may-replace c.args.code.now c.args.gone.now c.args.entered.now c.args.started.now c.args.p c.args.k c.requires.inside c.requires.open_ (c.is_end_clear.ensures.0 c.if-not-is_end_clear.false) in
    let inside : c.args.p + c.args.k < length c.args.sets.now = let h = may.inside in let s = c.requires.sets in omega arith in
    asked-none c.shorter.result (A (take c.args.k (drop c.args.p c.args.code.now)) (get_or c.args.sets.now (c.args.p + c.args.k) 0))
    (MayReplace c.args.code.now c.args.gone.now c.args.entered.now c.args.started.now c.args.p c.args.k)
    (subst (λ n. A (take c.args.k (drop c.args.p c.args.code.now)) n c.shorter.result) (c.index-sets-p.is ∙ get_or_default_zero c.args.sets.now (c.args.p + c.args.k) c.index-sets-p.result inside)
    (subst (λ n. A (take n (drop c.args.p c.args.code.now)) c.index-sets-p.result c.shorter.result) (span c.args.p c.args.k) c.shorter.ensures))
