-- A tree with parameters in the place of literals does the same.
use Rattle.std.proofs.Common.{◌≡◌, ℕ, true, nat_le, ◌&&◌, List, ◌∷◌, ◌++◌, map, ap, ◌∙◌, length, slice_get, if◌then◌else◌}
use Rattle.std.proofs.Math.Path.{fun_ext}
use Rattle.std.proofs.lemmas.Bool.{and_parts}
use Rattle.nv_base.specs.declared.term.Atom.{Atom}
use Rattle.nv_base.specs.Words.{Env, word, assigned, assigned_all, atom_word, atom_words, prim_word, compares}
use Rattle.nv_base.specs.World.{World, over, ended, read_words, write_words}
use Rattle.nv_base.specs.Sets.{AgreeOn}
use Rattle.nv_base.specs.Access.{is_known, all_known, is_primitive, can_move, is_address}
use Rattle.nv_base.proofs.Sets.{agree-assigned, agree-all}
use Rattle.flow_ir.specs.Formed.{defined, is_formed, takes_as_many}
use Rattle.flow_ir.specs.Tree.{Tree, Let, Read, Write, If, Jump, Halt, Label}
use Rattle.flow_ir.specs.Meaning.{Next, does}
use Rattle.flow_ir.proofs.Members.{in-left, in-right, in-first, in-rest}
use Rattle.flow_literals.specs.inner.Hoisted.{hoisted, test_at, AreBelow}
use Rattle.flow_literals.proofs.Standing.{Stands, IsFree, stands_one, stands_all, same_words, test_word, address_word, prim_at_word, handed_words}

module _ (labels : List Label) (heads : ℕ → List ℕ) (f g : Next) (jumps : (l : ℕ) (ws : List ℕ) (w : World) → g l (map word (heads l) ++ ws) w ≡ f l ws w) (base : ℕ) (own : ℕ → Atom) (free : IsFree base own) where
  pub does_same : (t : Tree) (known : List ℕ) (env new : Env) (w : World) → is_formed labels known t ≡ true → AreBelow base (defined t) → AgreeOn known env new → Stands own new → does g (hoisted heads own t) new w ≡ does f t env w
  does_same (Let x p t) known env new w e below h s =
      let u = hoisted heads own t in
      let parts = and_parts (is_primitive known p) (is_formed labels (x ∷ known) t) e in
      let v = prim_word env p in
      ap (λ z. does g u (assigned new x z) w) (prim_at_word own known env new h s p parts.0)
      ∙ does_same t (x ∷ known) (assigned env x v) (assigned new x v) w parts.1 (λ y i. below y (in-rest y x (defined t) i)) (agree-assigned known env new x v h) (stands_one base own new x v free (below x (in-first x (defined t))) s)
  does_same (Read m xs a t) known env new w e below h s =
      let u = hoisted heads own t in
      let n = length xs in
      let p1 = and_parts (is_known known a) (can_move m n && (is_address m a n && is_formed labels (xs ++ known) t)) e in
      let p2 = and_parts (can_move m n) (is_address m a n && is_formed labels (xs ++ known) t) p1.1 in
      let p3 = and_parts (is_address m a n) (is_formed labels (xs ++ known) t) p2.1 in
      ap (λ v. read_words m v n w (λ ws. does g u (assigned_all new xs ws) w)) (address_word own known env new h s m a p1.0)
      ∙ ap (read_words m (atom_word env a) n w)
      (fun_ext (λ ws. does_same t (xs ++ known) (assigned_all env xs ws) (assigned_all new xs ws) w p3.1 (λ y i. below y (in-right y xs (defined t) i)) (agree-all xs ws known env new h) (stands_all base own xs ws new free (λ y i. below y (in-left y xs (defined t) i)) s)))
  does_same (Write m a bs t) known env new w e below h s =
      let u = hoisted heads own t in
      let n = length bs in
      let p1 = and_parts (is_known known a) (all_known known bs && (can_move m n && (is_address m a n && is_formed labels known t))) e in
      let p2 = and_parts (all_known known bs) (can_move m n && (is_address m a n && is_formed labels known t)) p1.1 in
      let p3 = and_parts (can_move m n) (is_address m a n && is_formed labels known t) p2.1 in
      let p4 = and_parts (is_address m a n) (is_formed labels known t) p3.1 in
      ap (λ v. write_words m v (atom_words new bs) w (λ k. does g u new k)) (address_word own known env new h s m a p1.0)
      ∙ ap (λ v. write_words m (atom_word env a) v w (λ k. does g u new k)) (same_words own known env new h s bs p2.0)
      ∙ ap (write_words m (atom_word env a) (atom_words env bs) w) (fun_ext (λ k. does_same t known env new k p4.1 below h s))
  does_same (If c a b t1 t2) known env new w e below h s =
      let u1 = hoisted heads own t1 in
      let u2 = hoisted heads own t2 in
      let p1 = and_parts (is_known known a) (is_known known b && (is_formed labels known t1 && is_formed labels known t2)) e in
      let p2 = and_parts (is_known known b) (is_formed labels known t1 && is_formed labels known t2) p1.1 in
      let p3 = and_parts (is_formed labels known t1) (is_formed labels known t2) p2.1 in
      let q = does g u1 new w in
      let r = does g u2 new w in
      let holds = compares c (atom_word env a) (atom_word env b) in
      let one = does_same t1 known env new w p3.0 (λ y i. below y (in-left y (defined t1) (defined t2) i)) h s in
      let two = does_same t2 known env new w p3.1 (λ y i. below y (in-right y (defined t1) (defined t2) i)) h s in
      ap (λ v. if compares c v (atom_word new (test_at own c b)) then q else r) (test_word own known env new h s c a p1.0) ∙ ap (λ v. if compares c (atom_word env a) v then q else r) (test_word own known env new h s c b p2.0)
      ∙ ap (λ v. if holds then v else r) one ∙ ap (λ v. if holds then does f t1 env w else v) two
  does_same (Jump l bs) known env new w e below h s =
      let p1 = and_parts (all_known known bs) (nat_le 1 l && takes_as_many (length bs) (slice_get labels l)) e in
      ap (λ v. g l v w) (handed_words own known env new h s (heads l) bs p1.0) ∙ jumps l (atom_words env bs) w
  does_same (Halt k bs) known env new w e below h s =
      let p1 = and_parts (all_known known bs) (nat_le (length bs) 8) e in
      ap (λ v. over (ended k v) w) (same_words own known env new h s bs p1.0)
