-- The code of a space, by which a proof tells spaces apart.
use Rattle.std.specs.Coded.{Coded, coded×, coded_ℕ, coded_list}
use Rattle.std.specs.FinMap as map
use Rattle.delos_types.specs.Spaces.{SpaceMap}

abbrev pub space_code : Coded SpaceMap
space_code = map.code (coded× coded_ℕ (coded_list coded_ℕ)) (coded_list coded_ℕ)
