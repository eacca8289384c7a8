use Rattle.stream_tests.proofs.tests.tables.a_named_table_is_answered_by_its_lines.Given as goal

abbrev pub ghosts-is_written_by_name : goal.ghosts-is_written_by_name
ghosts-is_written_by_name g a = record { text = a.table }
