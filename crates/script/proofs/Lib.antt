mod Before
