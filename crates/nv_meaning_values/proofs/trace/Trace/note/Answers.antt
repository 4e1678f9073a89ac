use Rattle.std.proofs.Common.{rules, ◌≡◌, ◌<◌, ◌∷◌, [], All, arith, ap, sym, length, map, subst}
use Rattle.std.specs.Prelude.{vec_len, vec_capacity}
use Rattle.std.proofs.lemmas.List.{length-map}
use Rattle.std.proofs.lemmas.List.Elements.{All-append}
use Rattle.nv_meaning_values.specs.Notes.{HasRoom}
use Rattle.nv_meaning_values.specs.Chains.{made_in, trail_of}
use Rattle.nv_meaning_values.proofs.trace.Trace.note.Goals as goal
use Rattle.nv_meaning_values.proofs.trace.Trace.note.Goals.{then-len-self, else-len-self}

pub invariant_of-self : goal.invariant_of-self
invariant_of-self c = elim c.if-len-self.branch [
  | then-len-self w ↦ (let s = w.self-inside-is in let before = c.self.invariant in let pushed = w.push_reserved.ensures in let r = ap (λ x. x.room) s in let f = ap (λ x. x.first) s in let a = ap (λ x. x.all) s in let less = w.if-len-self.true in
      let chains = c.self.inside.chains.items in
      let kept = c.self.inside.first.items in
      let given = subst (λ n. HasRoom (trail_of n) → c.args.m.chain < length n.chains) (sym c.self.view_is) c.requires.chain in
      let chain : c.args.m.chain < length chains = omega (arith, given (omega (arith, length-map kept (made_in (map (λ x. x.items) chains)), less, c.len.ensures)), length-map chains (λ x. x.items)) in (
        omega (arith, r, before.0),
        omega (arith, r, ap vec_capacity f, pushed.capacity, before.1),
        omega (arith, r, a, ap vec_len f, pushed.len, before.2, less, c.len.ensures),
        subst (λ x. All (λ m. m.chain < length x.chains.items) x.first.items) (sym s) (subst (λ l. All (λ m. m.chain < length chains) l) (sym pushed.items) (All-append (λ m. m.chain < length chains) kept (c.args.m ∷ []) before.3 (search (rules, chain)))),
      ))
  | else-len-self w ↦ search rules
]
