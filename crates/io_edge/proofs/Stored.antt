-- facts on what files hold once bytes were stored under a name
use Rattle.std.proofs.Common.{◌≡◌, ◌≢◌, ℕ, List, Some, rules, false, cond, ap, ◌∙◌}
use Rattle.std.proofs.lemmas.Slice.Eq.{bytes_eq-Decides}
use Rattle.std.proofs.lemmas.Cmp.{nat_list_cmp_total}
use Rattle.std.proofs.lemmas.Map.Text.{is_eq-slice_cmp}
use Rattle.std.specs.FinMap.{get, insert, get-insert, gets}
use Rattle.std.specs.Str.{bytes_eq}
use Rattle.io_edge.specs.Shelves.{FileTable}

-- the name holds what was stored under it
get-insert_same : (table : FileTable) (name bytes : List ℕ) → get (insert table name bytes) name ≡ Some bytes
get-insert_same table name bytes = grind (gets, rules)

-- every other name holds what it held
get-insert_other : (table : FileTable) (name bytes other : List ℕ) → other ≢ name → get (insert table name bytes) other ≡ get table other
get-insert_other table name bytes other apart =
    let decided = bytes_eq-Decides other name in
    let differs : bytes_eq other name ≡ false = grind (rules, decided.0, apart) in
    get-insert nat_list_cmp_total table name bytes other
    ∙ ap (λ same. cond same (Some bytes) (get table other)) (is_eq-slice_cmp other name ∙ differs)
