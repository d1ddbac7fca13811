-- An endpoint of the tests.
use Rattle.am_names.specs.declared.EndpointId.{EndpointId}

abbrev pub nine : EndpointId
nine = record { 0 = 9 }
