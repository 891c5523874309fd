-- What a body asks to be installed, once it is read.
use Rattle.rules.specs.declared.installation.Installation.{Installation}
use Rattle.rules.specs.Install.{Asked}

abbrev pub asked : Installation → Asked
asked x = record { file = x.file.now; name = x.name.now; privileges = x.privileges }
