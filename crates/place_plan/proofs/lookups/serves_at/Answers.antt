use Rattle.std.proofs.Common.{rules, ◌≡◌, ◌-◌, ltb, leb, true, false, List, length, take, drop, sym, ap, subst, ◌∙◌, arith}
use Rattle.std.specs.List.Sorted.{IsNonDecreasingBy, IsPartitionPoint}
use Rattle.std.proofs.lemmas.List.{length-drop, take_all}
use Rattle.std.proofs.lemmas.List.Sorted.{IsPartitionPoint-from_clause, IsPartitionedBy-leb, IsPartitionedBy-ltb}
use Rattle.place_plan.specs.declared.place.Serve.{Serve}
use Rattle.place_plan.specs.Plan.{serve_in}
use Rattle.place_plan.proofs.Searched.{drop-orderly, narrowed}
use Rattle.place_plan.proofs.lookups.serves_at.Goals as goal

pub returns : goal.returns
returns c = λ i.
    let l = c.args.serves.now in
    let k = c.args.k in
    let n = c.partition_point-from.result in
    let m = c.partition_point-count.result in
    let rest : take (length l - n) (drop n l) ≡ drop n l = take_all (length l - n) (drop n l) (let e = length-drop n l in omega (arith, e)) in
    let first = IsPartitionPoint-from_clause (λ (s : Serve). ltb s.point k) _ _ c.partition_point-from.ensures.partitioned (IsPartitionedBy-ltb (λ (s : Serve). s.point) _ k c.requires) (λ a r q z. search rules) in
    let orderly = subst (IsNonDecreasingBy (λ (s : Serve). s.point)) (sym rest) (drop-orderly (λ (s : Serve). s.point) l n c.requires) in
    let second = IsPartitionPoint-from_clause (λ (s : Serve). leb s.point k) _ _ c.partition_point-count.ensures.partitioned (IsPartitionedBy-leb (λ (s : Serve). s.point) _ k orderly) (λ a r q z. search rules) in
    ap (λ (ss : List Serve). serve_in (take m ss) k i) rest
    ∙ narrowed k i l n m c.partition_point-from.ensures.bound first (subst (λ ss. IsPartitionPoint (λ (s : Serve). leb s.point k ≡ true) (λ (s : Serve). leb s.point k ≡ false) ss m) rest second)
