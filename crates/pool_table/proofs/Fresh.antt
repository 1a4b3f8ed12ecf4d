-- A region as it is made has room for a table.
use Rattle.std.proofs.Common.{◌≡◌, ℕ, ◌+◌, ◌-◌, ◌*◌, ◌/◌, ◌≤◌, Bool, true, false, List, length, replicate, refl, ◌∙◌, arith}
use Rattle.pool_table.proofs.Imports.{length-replicate, get_or-replicate, get_or_append_left, div-mul-le_self, le-div, page_below, fresh_shaped}
use Rattle.pool_table.specs.Making.{MadeRegionsHaveRoom}
use Rattle.pool_table.proofs.Zeros.{zeros_from}

pub fresh_room : MadeRegionsHaveRoom
fresh_room page accessible len n some whole_accessible whole_len order fits =
    let pages : accessible / page ≤ len / page = le-div (accessible / page) len page some (omega (arith, div-mul-le_self accessible page, order)) in
    let zeros : List ℕ = replicate len 0 in
    let all : length zeros ≡ len = length-replicate {A = ℕ} len 0 in
    record {
      shaped = fresh_shaped page accessible len pages whole_len;
      reach = λ k first last.
          let ends : k * page + page ≤ accessible = page_below k accessible page whole_accessible (omega (arith, last, fits)) in
          let sum : (k + 1) * page ≡ k * page + page = grind arith in
          let below : k + 1 ≤ accessible / page = le-div (k + 1) accessible page some (omega (arith, sum, ends)) in
          get_or_append_left (replicate (accessible / page) true) (replicate (len / page - accessible / page) false) false k (omega (arith, below, length-replicate {A = Bool} (accessible / page) true))
          ∙ get_or-replicate (accessible / page) k true false (omega (arith, below));
      origin = refl;
      zeros = zeros_from zeros 0 n (omega (arith, all, fits, order)) (λ i d from below. get_or-replicate len i 0 d (omega (arith, below, fits, order)));
    }
