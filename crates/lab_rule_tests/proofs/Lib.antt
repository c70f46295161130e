mod ExampleViews
