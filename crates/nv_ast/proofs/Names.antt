-- A name, by its bytes.
use Rattle.std.proofs.Common.{inl, inr, refl, lit≤}
use Rattle.std.specs.Prelude.{codes}
use Rattle.nv_base.specs.Name.{IsName, IsLetter}

letter : IsLetter 116
letter = inr (inl (lit≤ tt, lit≤ tt))

pub h_ttl : IsName (codes "h_ttl")
h_ttl = ((inr (inl (lit≤ tt, lit≤ tt)), (inl (inr (inr refl)), (inl (inr (inl (lit≤ tt, lit≤ tt))), (inl (inr (inl (lit≤ tt, lit≤ tt))), (inl (inr (inl (lit≤ tt, lit≤ tt))), tt))))), lit≤ tt)
