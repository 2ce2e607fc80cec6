use Rattle.std.proofs.Common.{◌<◌, ℕ, refl, sym, ap, subst, length}
use Rattle.space_ops.specs.Op.{vector_of}
use Rattle.mode_project.proofs.laws.law_of_one_space.Goals as goal

pub returns : goal.returns
returns c g atom o u k h a b =
    let law = c.law_of_orbits.ensures in
    record {
      group = refl;
      atoms = ap length (law.places g (vector_of atom.place) o.places u.places a.places b.places);
      each = refl;
      images = λ q i lq. law.images g atom o u h a b q i (subst (λ (n : ℕ). q < n) (sym a.order) lq);
      turns = λ q x y lq lx ly. refl;
    }
