use Rattle.meaning_areas.proofs.Ordered.{stand-compared, compared-stand, one-stored, stand-or-nothing}
use Rattle.meaning_areas.proofs.laws.areas_stand_where_all_compares.Goals as goal

pub returns-clause-compares : goal.returns-clause-compares
returns-clause-compares c f s area stand = stand-compared f s stand area

pub returns-clause-stands : goal.returns-clause-stands
returns-clause-stands c = compared-stand

pub returns-clause-one : goal.returns-clause-one
returns-clause-one c = one-stored

pub returns-clause-nothing : goal.returns-clause-nothing
returns-clause-nothing c = stand-or-nothing
