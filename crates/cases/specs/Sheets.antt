-- The sheets of document 01's small cases. Bytes in decimal, one record a line; 255 is none or unused.
use Rattle.std.specs.Prelude.{ℕ, List, [], ◌∷◌}

-- types 2 call and 3 horse, each with rights 1 read and 2 amend; QT 0 call{read,amend}, 1 call{read}, 2 call{}, 3 horse{read},
-- 4 tray[call{read}]{fetch,store}, 5 tray[call{read}]{fetch}, 6 tray[call{read,amend}]{fetch,store}, 7 tray[call{read,amend}]{fetch},
-- 8 call{read} again; main returns
unfoldable pub studbook : List ℕ
studbook =
    72 ∷ 68 ∷ 1 ∷ 2 ∷ 9 ∷ 1 ∷
    84 ∷ 89 ∷ 2 ∷ 0 ∷ 255 ∷ 255 ∷ 255 ∷ 255 ∷ 255 ∷ 255 ∷ 255 ∷ 255 ∷
    84 ∷ 89 ∷ 2 ∷ 0 ∷ 255 ∷ 255 ∷ 255 ∷ 255 ∷ 255 ∷ 255 ∷ 255 ∷ 255 ∷
    81 ∷ 84 ∷ 2 ∷ 6 ∷ 0 ∷ 255 ∷
    81 ∷ 84 ∷ 2 ∷ 2 ∷ 0 ∷ 255 ∷
    81 ∷ 84 ∷ 2 ∷ 0 ∷ 0 ∷ 255 ∷
    81 ∷ 84 ∷ 3 ∷ 2 ∷ 0 ∷ 255 ∷
    81 ∷ 84 ∷ 1 ∷ 6 ∷ 0 ∷ 1 ∷
    81 ∷ 84 ∷ 1 ∷ 2 ∷ 0 ∷ 1 ∷
    81 ∷ 84 ∷ 1 ∷ 6 ∷ 0 ∷ 0 ∷
    81 ∷ 84 ∷ 1 ∷ 2 ∷ 0 ∷ 0 ∷
    81 ∷ 84 ∷ 2 ∷ 2 ∷ 0 ∷ 255 ∷
    80 ∷ 82 ∷ 0 ∷ 0 ∷ 0 ∷ 255 ∷ 1 ∷ 0 ∷
    73 ∷ 78 ∷ 17 ∷ 255 ∷ 255 ∷ 255 ∷ 0 ∷ 0 ∷
    []

-- "The smallest, in hexadecimal"
unfoldable pub smallest : List ℕ
smallest =
    72 ∷ 68 ∷ 1 ∷ 0 ∷ 0 ∷ 1 ∷ 80 ∷ 82 ∷ 0 ∷ 0 ∷ 0 ∷ 255 ∷ 1 ∷ 0 ∷ 73 ∷ 78 ∷ 17 ∷ 255 ∷ 255 ∷ 255 ∷ 0 ∷ 0 ∷ []
