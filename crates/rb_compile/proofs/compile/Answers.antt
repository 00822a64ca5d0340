use Rattle.rb_compile.specs.Language.{program_of}
use Rattle.rb_compile.proofs.Compiled.{implements_of, whole_of, version_of, verified_of, short_of}
use Rattle.rb_compile.proofs.compile.Goals as goal

pub returns-clause-implements : goal.returns-clause-implements
returns-clause-implements c = implements_of (program_of c.args.text.now) c.in_ok-code.code c.in_ok-code.ensures.code

pub returns-clause-whole : goal.returns-clause-whole
returns-clause-whole c = whole_of (program_of c.args.text.now) c.in_ok-code.code c.in_ok-code.ensures.code

pub returns-clause-version : goal.returns-clause-version
returns-clause-version c = version_of (program_of c.args.text.now) c.in_ok-code.code c.in_ok-code.ensures.code

pub returns-clause-verified : goal.returns-clause-verified
returns-clause-verified c = verified_of (program_of c.args.text.now) c.in_ok-code.code c.in_ok-code.ensures.code

pub returns-clause-fits : goal.returns-clause-fits
returns-clause-fits c = short_of (program_of c.args.text.now) c.in_ok-code.code c.in_ok-code.ensures.code
