-- Qualified types are a set: each is told by a list of numbers. So a fact that equates them has one proof at most, as a ghost field's fact must.
use Rattle.std.specs.Prelude.{ℕ, ◌≡◌, cond, eqb, List, [], ◌∷◌}
use Rattle.std.specs.Coded.{Coded-set, code_by, coded_ℕ, coded_list}
use mathlib.Core.Path.{refl, ap}
use Rattle.model.specs.Qualified.{Qual, integer, array, declared, generic}

abbrev head : List ℕ → ℕ
head [] = 0
head (n ∷ l) = n

abbrev to_list : Qual → List ℕ
to_list integer = []
to_list (array r e) = 1 ∷ r ∷ to_list e
to_list (declared t r) = 2 ∷ t ∷ r ∷ []
to_list (generic t l) = 3 ∷ t ∷ l ∷ []

abbrev from_list : List ℕ → Qual
from_list [] = integer
from_list (k ∷ []) = integer
from_list (k ∷ (a ∷ l)) = cond (eqb k 1) (array a (from_list l)) (cond (eqb k 2) (declared a (head l)) (generic a (head l)))

from_list-to_list : (q : Qual) → from_list (to_list q) ≡ q
from_list-to_list integer = refl
from_list-to_list (array r e) = ap (array r) (from_list-to_list e)
from_list-to_list (declared t r) = refl
from_list-to_list (generic t l) = refl

pub Qual-set : IsSet Qual
Qual-set = Coded-set (code_by (List ℕ) (coded_list coded_ℕ) to_list from_list from_list-to_list)
