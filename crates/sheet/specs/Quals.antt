-- The fields of a QT: "base below t+2, rights, element byte".
use Rattle.std.specs.Prelude.{ℕ, ◌+◌, List}
use Rattle.sheet.specs.Bytes.{byte_at}
use Rattle.sheet.specs.Layout.{rights_size, edition_in, rights_at}
use Rattle.sheet.specs.declared.quals.QualFields.{QualFields}

abbrev pub qual_fields_at : List ℕ → ℕ → QualFields
qual_fields_at s at = record { base = byte_at s at 2; rights = rights_at s at; element = byte_at s at (3 + rights_size (edition_in s)) }
