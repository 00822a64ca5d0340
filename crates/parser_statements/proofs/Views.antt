-- The nodes of the trees that lists and statements make.
use Rattle.parser_tree.proofs.Views.{view-Text, view-Statements}

pub ruleset text_views = view-Text

pub ruleset statement_views = view-Statements
