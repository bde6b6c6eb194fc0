-- A mirror: the nodes of each list, the one after the root's tag being 1. Assumes nothing.
-- Written by tools/lists/make.
use Rattle.std.specs.Prelude.{List, [], ◌∷◌}
use Rattle.file_nodes.specs.Entries.{Entry, no_entry, plain, doubly, singly, shuts}

-- camt.053.001.08
unfoldable pub house_entries : List Entry
house_entries =
    no_entry ∷
    plain 2 29 0 (0 ∷ []) ∷  -- house 1
    plain 44 21 5 (0 ∷ []) ∷  -- house 2
    doubly 47 78 6 (44 ∷ []) ∷  -- house 3
    plain 29 62 8 (27 ∷ []) ∷  -- house 4
    doubly 47 78 9 (0 ∷ []) ∷  -- house 5
    singly 47 78 10 (44 ∷ []) ∷  -- house 6
    plain 15 43 15 (15 ∷ []) ∷  -- house 7
    plain 31 64 19 (27 ∷ 29 ∷ []) ∷  -- house 8
    singly 47 78 23 (0 ∷ []) ∷  -- house 9
    plain 49 24 25 (44 ∷ 48 ∷ []) ∷  -- house 10
    plain 8 35 35 (7 ∷ []) ∷  -- house 11
    plain 11 37 38 (0 ∷ []) ∷  -- house 12
    plain 14 40 40 (10 ∷ []) ∷  -- house 13
    doubly 19 48 49 (16 ∷ []) ∷  -- house 14
    plain 23 16 54 (15 ∷ 23 ∷ []) ∷  -- house 15
    doubly 24 55 56 (0 ∷ []) ∷  -- house 16
    plain 6 34 57 (6 ∷ []) ∷  -- house 17
    plain 26 58 58 (25 ∷ []) ∷  -- house 18
    plain 33 66 66 (27 ∷ 29 ∷ 31 ∷ []) ∷  -- house 19
    plain 42 75 76 (34 ∷ 42 ∷ []) ∷  -- house 20
    plain 45 22 77 (0 ∷ []) ∷  -- house 21
    plain 46 79 79 (45 ∷ []) ∷  -- house 22
    plain 49 24 80 (0 ∷ []) ∷  -- house 23
    plain 50 81 82 (0 ∷ []) ∷  -- house 24
    plain 56 83 84 (44 ∷ 48 ∷ 49 ∷ []) ∷  -- house 25
    plain 57 26 89 (57 ∷ []) ∷  -- house 26
    plain 43 2 90 (43 ∷ []) ∷  -- house 27
    plain 53 86 94 (50 ∷ []) ∷  -- house 28
    plain 3 30 0 (0 ∷ []) ∷  -- house 29
    plain 4 31 0 (0 ∷ []) ∷  -- house 30
    plain 5 32 0 (4 ∷ []) ∷  -- house 31
    shuts 3 33 0 (5 ∷ []) ∷  -- house 32
    plain 6 34 0 (3 ∷ []) ∷  -- house 33
    plain 7 11 0 (0 ∷ []) ∷  -- house 34
    plain 9 36 0 (7 ∷ 8 ∷ []) ∷  -- house 35
    plain 10 12 0 (0 ∷ []) ∷  -- house 36
    shuts 10 13 0 (11 ∷ 12 ∷ []) ∷  -- house 37
    plain 12 39 0 (0 ∷ []) ∷  -- house 38
    plain 13 41 0 (0 ∷ []) ∷  -- house 39
    shuts 9 42 0 (10 ∷ 14 ∷ []) ∷  -- house 40
    shuts 12 37 0 (13 ∷ []) ∷  -- house 41
    plain 15 43 0 (9 ∷ []) ∷  -- house 42
    plain 16 44 0 (0 ∷ []) ∷  -- house 43
    plain 17 45 0 (0 ∷ []) ∷  -- house 44
    plain 18 46 0 (0 ∷ []) ∷  -- house 45
    shuts 17 47 0 (18 ∷ []) ∷  -- house 46
    shuts 16 14 0 (17 ∷ []) ∷  -- house 47
    plain 20 50 0 (19 ∷ []) ∷  -- house 48
    singly 19 48 0 (16 ∷ []) ∷  -- house 49
    plain 21 51 0 (20 ∷ []) ∷  -- house 50
    plain 22 52 0 (0 ∷ []) ∷  -- house 51
    shuts 21 53 0 (22 ∷ []) ∷  -- house 52
    shuts 15 7 0 (21 ∷ []) ∷  -- house 53
    shuts 6 17 0 (15 ∷ 23 ∷ []) ∷  -- house 54
    plain 25 18 0 (24 ∷ []) ∷  -- house 55
    singly 24 55 0 (0 ∷ []) ∷  -- house 56
    shuts 2 59 0 (6 ∷ []) ∷  -- house 57
    plain 27 60 0 (25 ∷ 26 ∷ []) ∷  -- house 58
    shuts 1 0 0 (2 ∷ []) ∷  -- house 59
    plain 28 61 0 (0 ∷ []) ∷  -- house 60
    shuts 27 4 0 (28 ∷ []) ∷  -- house 61
    plain 30 63 0 (0 ∷ []) ∷  -- house 62
    shuts 29 8 0 (30 ∷ []) ∷  -- house 63
    plain 32 65 0 (0 ∷ []) ∷  -- house 64
    shuts 31 19 0 (32 ∷ []) ∷  -- house 65
    plain 34 67 0 (27 ∷ 29 ∷ 31 ∷ 33 ∷ []) ∷  -- house 66
    plain 35 68 0 (0 ∷ []) ∷  -- house 67
    plain 36 69 0 (0 ∷ []) ∷  -- house 68
    plain 37 70 0 (36 ∷ []) ∷  -- house 69
    plain 38 71 0 (0 ∷ []) ∷  -- house 70
    plain 39 72 0 (38 ∷ []) ∷  -- house 71
    shuts 37 73 0 (39 ∷ []) ∷  -- house 72
    shuts 35 74 0 (37 ∷ []) ∷  -- house 73
    shuts 34 20 0 (35 ∷ []) ∷  -- house 74
    plain 43 2 0 (0 ∷ []) ∷  -- house 75
    shuts 23 15 0 (34 ∷ 42 ∷ []) ∷  -- house 76
    plain 46 79 0 (0 ∷ []) ∷  -- house 77
    plain 48 10 0 (47 ∷ []) ∷  -- house 78
    shuts 44 3 0 (45 ∷ 46 ∷ []) ∷  -- house 79
    plain 56 83 0 (0 ∷ []) ∷  -- house 80
    plain 51 85 0 (0 ∷ []) ∷  -- house 81
    plain 53 86 0 (0 ∷ []) ∷  -- house 82
    plain 57 26 0 (0 ∷ []) ∷  -- house 83
    shuts 43 27 0 (44 ∷ 48 ∷ 49 ∷ 56 ∷ []) ∷  -- house 84
    plain 52 87 0 (0 ∷ []) ∷  -- house 85
    plain 54 88 0 (0 ∷ []) ∷  -- house 86
    shuts 51 91 0 (52 ∷ []) ∷  -- house 87
    plain 55 92 0 (0 ∷ []) ∷  -- house 88
    shuts 56 84 0 (57 ∷ []) ∷  -- house 89
    shuts 42 20 0 (43 ∷ []) ∷  -- house 90
    shuts 50 28 0 (51 ∷ []) ∷  -- house 91
    shuts 54 93 0 (55 ∷ []) ∷  -- house 92
    shuts 53 94 0 (54 ∷ []) ∷  -- house 93
    shuts 49 25 0 (50 ∷ 53 ∷ []) ∷  -- house 94
    []

-- camt.052.001.08
unfoldable pub report_entries : List Entry
report_entries =
    no_entry ∷
    plain 2 29 0 (0 ∷ []) ∷  -- report 1
    plain 44 21 5 (0 ∷ []) ∷  -- report 2
    doubly 47 77 6 (44 ∷ []) ∷  -- report 3
    plain 29 59 8 (27 ∷ []) ∷  -- report 4
    doubly 47 77 9 (0 ∷ []) ∷  -- report 5
    singly 47 77 10 (44 ∷ []) ∷  -- report 6
    plain 15 42 14 (9 ∷ 15 ∷ []) ∷  -- report 7
    plain 31 62 19 (27 ∷ 29 ∷ []) ∷  -- report 8
    singly 47 77 23 (0 ∷ []) ∷  -- report 9
    plain 49 24 25 (44 ∷ 48 ∷ []) ∷  -- report 10
    plain 8 35 35 (7 ∷ []) ∷  -- report 11
    plain 11 37 38 (0 ∷ []) ∷  -- report 12
    plain 14 40 40 (10 ∷ []) ∷  -- report 13
    plain 23 15 44 (9 ∷ 15 ∷ 23 ∷ []) ∷  -- report 14
    doubly 24 46 47 (0 ∷ []) ∷  -- report 15
    plain 6 34 49 (6 ∷ []) ∷  -- report 16
    plain 26 51 51 (25 ∷ []) ∷  -- report 17
    doubly 19 54 55 (16 ∷ []) ∷  -- report 18
    plain 33 65 65 (27 ∷ 29 ∷ 31 ∷ []) ∷  -- report 19
    plain 42 74 75 (34 ∷ 42 ∷ []) ∷  -- report 20
    plain 45 22 76 (0 ∷ []) ∷  -- report 21
    plain 46 78 78 (45 ∷ []) ∷  -- report 22
    plain 49 24 79 (0 ∷ []) ∷  -- report 23
    plain 50 80 81 (0 ∷ []) ∷  -- report 24
    plain 56 82 83 (44 ∷ 48 ∷ 49 ∷ []) ∷  -- report 25
    plain 57 26 88 (57 ∷ []) ∷  -- report 26
    plain 43 2 89 (43 ∷ []) ∷  -- report 27
    plain 53 85 93 (50 ∷ []) ∷  -- report 28
    plain 3 30 0 (0 ∷ []) ∷  -- report 29
    plain 4 31 0 (0 ∷ []) ∷  -- report 30
    plain 5 32 0 (4 ∷ []) ∷  -- report 31
    shuts 3 33 0 (5 ∷ []) ∷  -- report 32
    plain 6 34 0 (3 ∷ []) ∷  -- report 33
    plain 7 11 0 (0 ∷ []) ∷  -- report 34
    plain 9 36 0 (7 ∷ 8 ∷ []) ∷  -- report 35
    plain 10 12 0 (0 ∷ []) ∷  -- report 36
    shuts 10 13 0 (11 ∷ 12 ∷ []) ∷  -- report 37
    plain 12 39 0 (0 ∷ []) ∷  -- report 38
    plain 13 41 0 (0 ∷ []) ∷  -- report 39
    shuts 9 7 0 (10 ∷ 14 ∷ []) ∷  -- report 40
    shuts 12 37 0 (13 ∷ []) ∷  -- report 41
    plain 16 43 0 (0 ∷ []) ∷  -- report 42
    plain 17 45 0 (0 ∷ []) ∷  -- report 43
    shuts 6 16 0 (9 ∷ 15 ∷ 23 ∷ []) ∷  -- report 44
    plain 18 48 0 (0 ∷ []) ∷  -- report 45
    plain 25 17 0 (24 ∷ []) ∷  -- report 46
    singly 24 46 0 (0 ∷ []) ∷  -- report 47
    shuts 17 50 0 (18 ∷ []) ∷  -- report 48
    shuts 2 52 0 (6 ∷ []) ∷  -- report 49
    shuts 16 18 0 (17 ∷ []) ∷  -- report 50
    plain 27 53 0 (25 ∷ 26 ∷ []) ∷  -- report 51
    shuts 1 0 0 (2 ∷ []) ∷  -- report 52
    plain 28 56 0 (0 ∷ []) ∷  -- report 53
    plain 20 57 0 (19 ∷ []) ∷  -- report 54
    singly 19 54 0 (16 ∷ []) ∷  -- report 55
    shuts 27 4 0 (28 ∷ []) ∷  -- report 56
    plain 21 58 0 (20 ∷ []) ∷  -- report 57
    plain 22 60 0 (0 ∷ []) ∷  -- report 58
    plain 30 61 0 (0 ∷ []) ∷  -- report 59
    shuts 21 63 0 (22 ∷ []) ∷  -- report 60
    shuts 29 8 0 (30 ∷ []) ∷  -- report 61
    plain 32 64 0 (0 ∷ []) ∷  -- report 62
    shuts 15 7 0 (21 ∷ []) ∷  -- report 63
    shuts 31 19 0 (32 ∷ []) ∷  -- report 64
    plain 34 66 0 (27 ∷ 29 ∷ 31 ∷ 33 ∷ []) ∷  -- report 65
    plain 35 67 0 (0 ∷ []) ∷  -- report 66
    plain 36 68 0 (0 ∷ []) ∷  -- report 67
    plain 37 69 0 (36 ∷ []) ∷  -- report 68
    plain 38 70 0 (0 ∷ []) ∷  -- report 69
    plain 39 71 0 (38 ∷ []) ∷  -- report 70
    shuts 37 72 0 (39 ∷ []) ∷  -- report 71
    shuts 35 73 0 (37 ∷ []) ∷  -- report 72
    shuts 34 20 0 (35 ∷ []) ∷  -- report 73
    plain 43 2 0 (0 ∷ []) ∷  -- report 74
    shuts 23 14 0 (34 ∷ 42 ∷ []) ∷  -- report 75
    plain 46 78 0 (0 ∷ []) ∷  -- report 76
    plain 48 10 0 (47 ∷ []) ∷  -- report 77
    shuts 44 3 0 (45 ∷ 46 ∷ []) ∷  -- report 78
    plain 56 82 0 (0 ∷ []) ∷  -- report 79
    plain 51 84 0 (0 ∷ []) ∷  -- report 80
    plain 53 85 0 (0 ∷ []) ∷  -- report 81
    plain 57 26 0 (0 ∷ []) ∷  -- report 82
    shuts 43 27 0 (44 ∷ 48 ∷ 49 ∷ 56 ∷ []) ∷  -- report 83
    plain 52 86 0 (0 ∷ []) ∷  -- report 84
    plain 54 87 0 (0 ∷ []) ∷  -- report 85
    shuts 51 90 0 (52 ∷ []) ∷  -- report 86
    plain 55 91 0 (0 ∷ []) ∷  -- report 87
    shuts 56 83 0 (57 ∷ []) ∷  -- report 88
    shuts 42 20 0 (43 ∷ []) ∷  -- report 89
    shuts 50 28 0 (51 ∷ []) ∷  -- report 90
    shuts 54 92 0 (55 ∷ []) ∷  -- report 91
    shuts 53 93 0 (54 ∷ []) ∷  -- report 92
    shuts 49 25 0 (50 ∷ 53 ∷ []) ∷  -- report 93
    shuts 49 25 0 (50 ∷ 53 ∷ []) ∷  -- report 94
    []
