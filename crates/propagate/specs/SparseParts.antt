-- whose entries a sparse form holds
use Rattle.std.specs.Prelude.{◌≡◌}
use Rattle.boxed_problem.specs.Data.{Problem}
use Rattle.propagate.specs.declared.sparse.Sparse.{Sparse}

-- the sparse form is that of a problem
pub record IsOf (b : Problem) (sparse : Sparse) : Type 0 where
  pub columns : sparse.columns ≡ b.columns
  pub rows : sparse.rows ≡ b.rows
  pub entries : sparse.entries ≡ b.entries
