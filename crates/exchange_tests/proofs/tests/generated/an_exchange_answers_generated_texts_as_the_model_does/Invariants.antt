use Rattle.exchange_tests.proofs.tests.generated.an_exchange_answers_generated_texts_as_the_model_does.Given as goal

abbrev pub ghosts-compare : goal.ghosts-compare
ghosts-compare g a = record { name = a.blank.name; parts = a.blank.parts }
